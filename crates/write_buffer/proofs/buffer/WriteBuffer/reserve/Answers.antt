use Rattle.std.proofs.Common.{ap, ◌∙◌}
use Rattle.write_buffer.specs.Buffer.{Buffer}
use Rattle.write_buffer.proofs.Marks.{Keeps_same, Keeps_then}
use Rattle.write_buffer.proofs.buffer.WriteBuffer.reserve.Goals as goal

pub returns-in_err-reserve-clause-marks : goal.returns-in_err-reserve-clause-marks
returns-in_err-reserve-clause-marks c mark is =
    let first = c.reserve_first_writes.ensures.marks mark is in
    Keeps_then _ _ _ mark first
    (Keeps_same _ _ (ap (λ (b : Buffer). b.writes) c.self.view_is) (c.in_err-reserve.ensures.items ∙ ap (λ (b : Buffer). b.replaced) c.self.view_is) mark first.still)

pub returns-clause-marks : goal.returns-clause-marks
returns-clause-marks c mark is =
    let first = c.reserve_first_writes.ensures.marks mark is in
    Keeps_then _ _ _ mark first
    (Keeps_same _ _ (ap (λ (b : Buffer). b.writes) c.self.view_is) (c.in_ok-reserve.ensures.items ∙ ap (λ (b : Buffer). b.replaced) c.self.view_is) mark first.still)
