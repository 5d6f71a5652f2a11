use Rattle.std.proofs.Common.{ℕ, ◌<◌, length, ap, ◌∙◌}
use Rattle.std.proofs.lemmas.List.{get_or_default}
use Rattle.write_buffer.specs.Buffer.{Buffer}
use Rattle.write_buffer.proofs.Indexed.{IsIndexed_with_value}
use Rattle.write_buffer.proofs.Marks.{Keeps_again, Keeps_same}
use Rattle.write_buffer.proofs.buffer.WriteBuffer.keep_and_set.Goals as goal

pub returns-in_err-push-clause-marks : goal.returns-in_err-push-clause-marks
returns-in_err-push-clause-marks c =
    Keeps_same _ _ (ap (λ (b : Buffer). b.writes) c.self.view_is) (c.in_err-push.ensures.items ∙ ap (λ (b : Buffer). b.replaced) c.self.view_is)

pub invariant_of-self-2 : goal.invariant_of-self-2
invariant_of-self-2 c = rw c.set_value.ensures.value (IsIndexed_with_value _ _ c.args.place c.args.value c.self.invariant)

pub returns-clause-marks : goal.returns-clause-marks
returns-clause-marks c =
    let within : c.args.place < length c.self.inside.writes.items = rw (← c.self.view_is) at c.requires in
    rw (← c.self.view_is)
    (Keeps_again _ _ c.args.place c.args.value c.index.result.now.1
    (ap (λ (w : ℕ × ℕ). w.1) (c.index.ensures ∙ get_or_default c.self.inside.writes.items c.args.place c.index.result.now (0, 0) within))
    c.set_value.ensures.value c.in_ok-push.ensures.items)
