use Rattle.std.proofs.Common.{◌<◌, length, ap, ◌∙◌, arith}
use Rattle.stm_model.specs.After.{note_of}
use Rattle.read_set.specs.Reads.{Reads}
use Rattle.read_set.proofs.Apart.{AreApart-push, IsIndexed-push}
use Rattle.read_set.proofs.read_set.ReadSet.add_spare.Goals as goal

pub invariant_of-self : goal.invariant_of-self
invariant_of-self c = record {
  apart = rw c.push_reserved.ensures.items (AreApart-push _ c.args.note c.self.invariant.apart (ap (λ (r : Reads). note_of r.notes c.args.note.addr.0) c.self.view_is ∙ c.requires.unnoted));
  cells = rw c.as_slice.ensures.value at c.catch_up.ensures.indexed;
}

pub invariant_of-self-else-len-gt-SMALL : goal.invariant_of-self-else-len-gt-SMALL
invariant_of-self-else-len-gt-SMALL c =
    let few : length c.self.inside.notes.items < 32 = omega arith in
    rw c.push_reserved.ensures.items
    (IsIndexed-push _ _ c.args.note c.self.invariant (ap (λ (r : Reads). note_of r.notes c.args.note.addr.0) c.self.view_is ∙ c.requires.unnoted) few)
