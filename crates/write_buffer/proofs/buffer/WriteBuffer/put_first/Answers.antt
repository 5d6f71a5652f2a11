use Rattle.std.proofs.Common.{◌≡◌, ◌<◌, false, length, refl, ap, sym, ◌∙◌, arith}
use Rattle.stm_model.specs.Heap.{put, writes_to}
use Rattle.write_buffer.specs.Buffer.{Buffer}
use Rattle.write_buffer.proofs.Indexed.{AreApart_push, IsIndexed_push}
use Rattle.write_buffer.proofs.Marks.{Keeps_new}
use Rattle.write_buffer.proofs.Places.{put_new}
use Rattle.write_buffer.proofs.buffer.WriteBuffer.put_first.Goals as goal

pub invariant_of-self : goal.invariant_of-self
invariant_of-self c =
    let none : writes_to c.self.inside.writes.items c.args.addr.0 ≡ false = ap (λ (b : Buffer). writes_to b.writes c.args.addr.0) c.self.view_is ∙ c.requires.unwritten in
    record {
      apart = rw c.push_reserved.ensures.items (AreApart_push _ c.args.addr.0 c.args.value c.self.invariant.apart none);
      cells = rw c.as_slice.ensures.value at c.catch_up.ensures.indexed;
    }

pub invariant_of-self-else-len-gt-SMALL : goal.invariant_of-self-else-len-gt-SMALL
invariant_of-self-else-len-gt-SMALL c =
    let none : writes_to c.self.inside.writes.items c.args.addr.0 ≡ false = ap (λ (b : Buffer). writes_to b.writes c.args.addr.0) c.self.view_is ∙ c.requires.unwritten in
    let few : length c.self.inside.writes.items < 32 = omega arith in
    rw c.push_reserved.ensures.items (IsIndexed_push _ _ c.args.addr.0 c.args.value c.self.invariant none few)

pub returns-then-len-gt-SMALL-clause-writes : goal.returns-then-len-gt-SMALL-clause-writes
returns-then-len-gt-SMALL-clause-writes c =
    let none : writes_to c.self.inside.writes.items c.args.addr.0 ≡ false = ap (λ (b : Buffer). writes_to b.writes c.args.addr.0) c.self.view_is ∙ c.requires.unwritten in
    c.push_reserved.ensures.items ∙ sym (put_new _ c.args.addr.0 c.args.value none) ∙ ap (λ (b : Buffer). put b.writes c.args.addr.0 c.args.value) c.self.view_is

pub returns-then-len-gt-SMALL-clause-marks : goal.returns-then-len-gt-SMALL-clause-marks
returns-then-len-gt-SMALL-clause-marks c = rw (← c.self.view_is) (Keeps_new _ _ (c.args.addr.0, c.args.value) c.push_reserved.ensures.items refl)

pub returns-else-len-gt-SMALL-clause-writes : goal.returns-else-len-gt-SMALL-clause-writes
returns-else-len-gt-SMALL-clause-writes c =
    let none : writes_to c.self.inside.writes.items c.args.addr.0 ≡ false = ap (λ (b : Buffer). writes_to b.writes c.args.addr.0) c.self.view_is ∙ c.requires.unwritten in
    c.push_reserved.ensures.items ∙ sym (put_new _ c.args.addr.0 c.args.value none) ∙ ap (λ (b : Buffer). put b.writes c.args.addr.0 c.args.value) c.self.view_is

pub returns-else-len-gt-SMALL-clause-marks : goal.returns-else-len-gt-SMALL-clause-marks
returns-else-len-gt-SMALL-clause-marks c = rw (← c.self.view_is) (Keeps_new _ _ (c.args.addr.0, c.args.value) c.push_reserved.ensures.items refl)
