use Rattle.std.proofs.Common.{refl, ◌∙◌, sym, arith}
use Rattle.write_buffer.proofs.Indexed.{IsIndexed_with_value}
use Rattle.write_buffer.proofs.Marks.{IsMark_earlier, Keeps_later}
use Rattle.write_buffer.proofs.Places.{written_before}
use Rattle.write_buffer.proofs.buffer.WriteBuffer.rewrite.Goals as goal

pub returns-then-place-since-clause-keeps_none : goal.returns-then-place-since-clause-keeps_none
returns-then-place-since-clause-keeps_none c none =
    absurd (cc (sym none ∙ written_before _ c.args.since.entries c.in-Some.place c.args.addr.0 c.in-Some.ensures.place c.if-place-since.true))

pub invariant_of-self : goal.invariant_of-self
invariant_of-self c = rw c.set_value.ensures.value (IsIndexed_with_value _ _ c.in-Some.place c.args.value c.self.invariant)

pub returns-clause-marks : goal.returns-clause-marks
returns-clause-marks c mark earlier =
    rw (← c.self.view_is)
    (Keeps_later _ _ c.in-Some.place c.args.value c.set_value.ensures.value refl mark
    (IsMark_earlier _ c.args.since mark (rw (← c.self.view_is) at c.requires.mark) earlier)
    (let earlier_entries = earlier.entries in omega arith))
