use Rattle.std.proofs.Common.{◌≡◌, ◌<◌, Bool, true, false, List, [], Option, refl, sym, ap, ◌∙◌, subst, arith}
use Rattle.std.proofs.lemmas.List.{length-map}
use Rattle.op_commit.specs.Back.{accesses_left, backing, backing_at, due_at, due_by, former_writes}
use Rattle.op_commit.specs.Buffered.{note_of_write, ring_for}
use Rattle.op_commit.specs.declared.back.BackEnd.{BackEnd}
use Rattle.op_commit.specs.declared.back.BackOp.{BackOp}
use Rattle.op_commit.specs.declared.back.BackPlace.{BackPlace}
use Rattle.op_commit.specs.declared.back.BackPlace.TheVariants.{Cell, Ended}
use Rattle.stm_core.proofs.Ends.{back_over, whatever_is_due}
use Rattle.stm_core.proofs.running.Running.take_undo.Goals as goal
use Rattle.stm_core.specs.Running.{InvariantAt, attempt_at, base, left_at, reads_under_way, writes_under_way}
use Rattle.stm_model.specs.After.{release_level_on}
use Rattle.stm_model.specs.Attempt.{Attempt, Due}
use Rattle.stm_model.specs.declared.cause.Addr.{Addr}

-- Of a level's release nothing but a ring comes due.
rings_alone : (place : BackPlace) (whole : Bool) (rung : Option Addr) (t : Attempt) → whole ≡ false → due_at place whole rung t ≡ ring_for rung
rings_alone (Cell index) whole rung t part = refl
rings_alone (Ended end) true rung t part = absurd (cc part)
rings_alone (Ended end) false rung t part = refl

part_ends : (place : BackPlace) (whole : Bool) (t : Attempt) (end : BackEnd) → whole ≡ false → place ≡ Ended end → backing_at place whole t ≡ release_level_on t (former_writes t.saved) []
part_ends place true t end part over = absurd (cc part)
part_ends place false t end part over = ap (λ (p : BackPlace). backing_at p false t) over

-- what it makes of its attempt, with what has come due by the last access
backs_on : (op : BackOp) (t : Attempt) → op.whole ≡ false → backing op (record t { due = due_by op t }) ≡ backing op (record t { due = ring_for op.rung })
backs_on op t part = ap (λ (dues : List Due). backing op (record t { due = dues })) (rings_alone op.place op.whole op.rung t part)

pub returns-in-None : goal.returns-in-None
unfolding InvariantAt attempt_at left_at reads_under_way writes_under_way
returns-in-None c =
    let made = c.requires.holds.0 in
    let op = c.take.new.self in
    let t = base c.args.self.now in
    let nothing : t.due ≡ [] = rw c.requires.nothing_due refl in
    let part : op.whole ≡ false = c.take.ensures.whole ∙ made.part in
    record {
      shows = rw c.rings.ensures (sym (c.take.ensures.after t nothing made.made_for (rw c.written.ensures refl) ∙ backs_on op t part));
      falls = subst (λ count. accesses_left op count < accesses_left c.args.op count) (length-map c.args.self.now.footprint.writes.writes note_of_write) (rw c.written.ensures at c.take.ensures.falls);
      room = record { for_reads = omega arith; for_writes = omega arith };
      numbers = record { own = refl; serial = refl; settings = refl };
      sound = record {
        fits = c.requires.fits;
        runs = tt;
        holds = (
          record {
            made_for = whatever_is_due _ _ _ (c.take.ensures.same _ made.made_for);
            along = rw (← c.written.ensures) c.take.ensures.along;
            part = part;
            inside = made.inside;
          },
          rw (← c.end.ensures, c.in-None.is) refl,
        );
      };
    }

pub returns-in-Some-Back : goal.returns-in-Some-Back
unfolding InvariantAt attempt_at left_at reads_under_way writes_under_way
returns-in-Some-Back c =
    let made = c.requires.holds.0 in
    let op = c.take.new.self in
    let t = base c.args.self.now in
    let nothing : t.due ≡ [] = rw c.requires.nothing_due refl in
    let part : op.whole ≡ false = c.take.ensures.whole ∙ made.part in
    let over : op.place ≡ Ended c.in-Some-Back.field-0 = back_over op.place c.in-Some-Back.field-0 (sym c.end.ensures ∙ c.in-Some-Back.is) in
    let becomes = c.undo_level.ensures.becomes (former_writes t.saved) in
    let falls = subst (λ count. accesses_left op count < accesses_left c.args.op count) (length-map c.args.self.now.footprint.writes.writes note_of_write) (rw c.written.ensures at c.take.ensures.falls) in
    let room = c.undo_level.ensures.room in
    record {
      shows =
          becomes.shows
          ∙ rw c.rings.ensures (sym (c.take.ensures.after t nothing made.made_for (rw c.written.ensures refl)
          ∙ backs_on op t part
          ∙ part_ends op.place op.whole (record t { due = ring_for op.rung }) c.in-Some-Back.field-0 part over));
      falls = omega (arith, falls, becomes.left);
      room = record { for_reads = omega (arith, room.for_reads); for_writes = omega (arith, room.for_writes) };
      numbers = record { own = becomes.numbers.own; serial = becomes.numbers.serial; settings = becomes.numbers.settings };
      sound = becomes.sound;
    }
