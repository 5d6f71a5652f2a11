use Rattle.std.proofs.Common.{◌<◌, ◌≤◌, length, take, arith, refl, ap, ◌∙◌}
use Rattle.write_buffer.specs.Buffer.{Buffer}
use Rattle.write_buffer.proofs.Indexed.{IsIndexed_take, IsIndexed_with_value}
use Rattle.write_buffer.proofs.Marks.{Keeps_undone}
use Rattle.write_buffer.proofs.Undoing.{undoing_begins, undoing_ends, undoing_goes_on}
use Rattle.write_buffer.proofs.buffer.WriteBuffer.undo.Goals as goal

pub loop-mark-init : goal.loop-mark-init
loop-mark-init c = record {
  undoing = undoing_begins _ _ _ _ c.requires
      (c.truncate.ensures.items ∙ ap (λ (b : Buffer). take c.args.mark.entries b.writes) c.self.view_is) (ap (λ (b : Buffer). b.replaced) c.self.view_is);
  indexed = rw c.truncate.ensures.items (IsIndexed_take _ _ _ c.args.mark.entries c.truncate-2.ensures.addresses c.truncate-2.ensures.room c.self.invariant);
  room = refl;
  index_room = refl;
  restores_room = refl;
}

pub loop-mark-preserved-in-Some : goal.loop-mark-preserved-in-Some
loop-mark-preserved-in-Some c =
    let more : c.args.mark.restores < length c.loop-mark.self-inside.replaced.items = omega arith in
    record {
      undoing = undoing_goes_on _ _ _ _ _ _ c.in-Some.place c.in-Some.former more c.in-Some.ensures.items c.set_value.ensures.value c.loop-mark.invariant.undoing;
      indexed = rw c.set_value.ensures.value (IsIndexed_with_value _ _ c.in-Some.place c.in-Some.former c.loop-mark.invariant.indexed);
      room = c.set_value.ensures.room ∙ c.loop-mark.invariant.room;
      index_room = c.loop-mark.invariant.index_room;
      restores_room = c.pop.ensures.capacity ∙ c.loop-mark.invariant.restores_room;
    }

pub returns-clause-writes : goal.returns-clause-writes
returns-clause-writes c =
    let all : length c.loop-mark.self-inside.replaced.items ≤ c.args.mark.restores = omega arith in
    (undoing_ends _ _ _ _ all c.loop-mark.invariant.undoing).0

pub returns-clause-marks : goal.returns-clause-marks
returns-clause-marks c =
    let all : length c.loop-mark.self-inside.replaced.items ≤ c.args.mark.restores = omega arith in
    let ends = undoing_ends _ _ _ _ all c.loop-mark.invariant.undoing in
    Keeps_undone _ _ _ c.requires ends.0 ends.1
