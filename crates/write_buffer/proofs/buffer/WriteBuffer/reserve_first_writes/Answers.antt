use Rattle.std.proofs.Common.{ap, ◌∙◌}
use Rattle.write_buffer.specs.Buffer.{Buffer}
use Rattle.write_buffer.proofs.Marks.{Keeps_same}
use Rattle.write_buffer.proofs.buffer.WriteBuffer.reserve_first_writes.Goals as goal

pub returns-in_err-reserve-clause-marks : goal.returns-in_err-reserve-clause-marks
returns-in_err-reserve-clause-marks c =
    Keeps_same _ _ (c.in_err-reserve.ensures.items ∙ ap (λ (b : Buffer). b.writes) c.self.view_is) (ap (λ (b : Buffer). b.replaced) c.self.view_is)

pub returns-in_err-reserve-2-clause-marks : goal.returns-in_err-reserve-2-clause-marks
returns-in_err-reserve-2-clause-marks c =
    Keeps_same _ _ (c.in_ok-reserve.ensures.items ∙ ap (λ (b : Buffer). b.writes) c.self.view_is) (ap (λ (b : Buffer). b.replaced) c.self.view_is)

pub returns-clause-marks : goal.returns-clause-marks
returns-clause-marks c =
    Keeps_same _ _ (c.in_ok-reserve.ensures.items ∙ ap (λ (b : Buffer). b.writes) c.self.view_is) (ap (λ (b : Buffer). b.replaced) c.self.view_is)
