use Rattle.std.proofs.Common.{◌≡◌, length, arith}
use Rattle.write_buffer.proofs.Marks.{at_mark_now}
use Rattle.write_buffer.proofs.buffer.WriteBuffer.mark.Goals as goal

pub returns-clause-writes : goal.returns-clause-writes
returns-clause-writes c =
    let entries : c.len.result ≡ length c.self.inside.writes.items = omega arith in
    let restores : c.len-2.result ≡ length c.self.inside.replaced.items = omega arith in
    rw (← c.self.view_is) (at_mark_now _ _ entries restores)
