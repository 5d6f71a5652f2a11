use Rattle.std.proofs.Common.{◌≡◌, ◌<◌, refl, sym, ◌∙◌, subst, [], rules, arith}
use Rattle.std.proofs.lemmas.List.{length-map}
use Rattle.op_commit.specs.Back.{IsBacking, accesses_left}
use Rattle.op_commit.specs.Buffered.{note_of_write}
use Rattle.op_commit.specs.declared.back.BackPlace.TheVariants.{Ended}
use Rattle.stm_core.proofs.Ends.{back_ends, back_over, whatever_is_due}
use Rattle.stm_core.specs.Running.{InvariantAt, attempt_at, base, closing, left_at, reads_under_way, writes_under_way}
use Rattle.stm_core.proofs.running.Running.take_roll_back.Goals as goal

pub returns-in-None : goal.returns-in-None
unfolding InvariantAt attempt_at left_at reads_under_way writes_under_way
returns-in-None c = let made = c.requires.holds.0 in record {
  shows = search rules;
  falls = subst (λ count. accesses_left c.take.new.self count < accesses_left c.args.op count) (length-map c.args.self.now.footprint.writes.writes note_of_write) (rw c.written.ensures at c.take.ensures.falls);
  room = record { for_reads = omega arith; for_writes = omega arith };
  numbers = record { own = refl; serial = refl; settings = refl };
  sound = record {
    fits = c.requires.fits;
    runs = tt;
    holds = (
      record {
        made_for = whatever_is_due _ _ _ (c.take.ensures.same _ made.made_for);
        along = rw (← c.written.ensures) c.take.ensures.along;
        whole = c.take.ensures.whole ∙ made.whole;
      },
      rw (← c.end.ensures, c.in-None.is) refl,
    );
  };
}

pub returns-in-Some-Back : goal.returns-in-Some-Back
unfolding InvariantAt attempt_at left_at reads_under_way writes_under_way
returns-in-Some-Back c = let made = c.requires.holds.0 in
    let t = closing (base c.args.self.now) c.args.ending c.args.prepared in
    let op = c.take.new.self in
    let over : op.place ≡ Ended c.in-Some-Back.field-0 = back_over op.place c.in-Some-Back.field-0 (sym c.end.ensures ∙ c.in-Some-Back.is) in
    let nothing : t.due ≡ [] = rw c.requires.nothing_due refl in
    let made_for : IsBacking c.args.op t = record { own = made.made_for.own; serial = made.made_for.serial } in
    let becomes = c.end-in-Some-Back.ensures.becomes in
    record {
      shows = becomes.shows ∙ rw c.rings.ensures (sym (c.take.ensures.after t nothing made_for (rw c.written.ensures refl) ∙ back_ends op t c.in-Some-Back.field-0 over (c.take.ensures.whole ∙ made.whole)));
      falls = search rules;
      room = record { for_reads = omega (arith, c.end-in-Some-Back.ensures.room.for_reads); for_writes = omega (arith, c.end-in-Some-Back.ensures.room.for_writes) };
      numbers = record { own = becomes.numbers.own; serial = becomes.numbers.serial; settings = becomes.numbers.settings };
      sound = becomes.sound;
    }
