use Rattle.std.proofs.Common.{arith, sym}
use Rattle.opacity.proofs.PlainDecides.{written_more}
use Rattle.opacity.proofs.world.written.Goals as goal

pub loop-i-preserved : goal.loop-i-preserved
loop-i-preserved g c = (
  rw (c.in_ok-push.ensures.items, c.loop-i.invariant.0)
      (sym (written_more (g.W.Notes.notes c.args.writes.now) c.loop-i.i c.at-write.result (omega (arith, c.loop-i-test.true, c.len-i-end.ensures)) c.at-write.ensures)),
  omega (arith, c.loop-i.invariant.1, c.push.ensures.capacity),
)
