use Rattle.std.proofs.Common.{◌≡◌, ◌≤◌, ℕ, Bool, true, false, List, [], ◌∷◌, drop, length, inl, refl, sym, ap, ◌∙◌, arith}
use Rattle.std.proofs.lemmas.List.{drop_all, length-map}
use Rattle.op_commit.specs.Back.{backing_at, left_at as left_behind}
use Rattle.op_commit.specs.Buffered.{note_of_write}
use Rattle.op_commit.specs.declared.back.BackPlace.{BackPlace}
use Rattle.op_commit.specs.declared.back.BackPlace.TheVariants.{Cell, Ended}
use Rattle.stm_core.proofs.Marked.{entries_of_book, first_and_others, innermost}
use Rattle.stm_core.proofs.running.Running.undo.Goals as goal
use Rattle.stm_core.specs.Machine.{accesses_asked, reads_asked, writes_asked}
use Rattle.stm_core.specs.Past.{books_in}
use Rattle.stm_core.specs.Running.{InvariantAt, attempt_at, base, left_at, reads_under_way, standing_at, writes_under_way}
use Rattle.stm_model.specs.After.{at, release_level_on, roll_on}
use Rattle.stm_model.specs.Attempt.{Attempt, Stage, Write}
use Rattle.stm_model.specs.CellsState.{Book, outer}
use Rattle.stm_model.specs.Moves.{MayRunOut, asked_going, undo_level}

rolls_anywhere : (t : Attempt) (stage : Stage) (writes : List Write) → roll_on (at t stage) writes ≡ roll_on t writes
rolls_anywhere t stage [] = refl
rolls_anywhere t stage (write ∷ behind) = refl

releases_anywhere : (t : Attempt) (stage : Stage) (kept writes : List Write) → release_level_on (at t stage) kept writes ≡ release_level_on t kept writes
releases_anywhere t stage kept [] = refl
releases_anywhere t stage kept (write ∷ behind) = refl

-- Where it stood makes no difference to what a release makes of it.
backs_anywhere : (place : BackPlace) (whole : Bool) (t : Attempt) (stage : Stage) → backing_at place whole (at t stage) ≡ backing_at place whole t
backs_anywhere (Cell index) true t stage = rolls_anywhere t stage (drop index t.now.writes)
backs_anywhere (Cell index) false t stage = releases_anywhere t stage _ (drop index t.now.writes)
backs_anywhere (Ended end) true t stage = refl
backs_anywhere (Ended end) false t stage = refl

-- A level's release makes at most one access for each cell.
part_left : (place : BackPlace) (whole : Bool) (writes : ℕ) → whole ≡ false → left_behind place whole writes ≤ writes
part_left (Cell index) true writes part = absurd (cc part)
part_left (Cell index) false writes part = omega arith
part_left (Ended end) whole writes part = omega arith

-- No cell was first written in the level.
nothing_to_release : (t : Attempt) (book : Book) (books : List Book) → length t.now.writes ≤ length book.writes → undo_level t (book ∷ books) ≡ release_level_on t book.writes []
nothing_to_release t book books within = rw (drop_all (length book.writes) t.now.writes within) refl

pub returns-then-first-len : goal.returns-then-first-len
unfolding InvariantAt attempt_at left_at reads_under_way writes_under_way accesses_asked reads_asked writes_asked asked_going MayRunOut
returns-then-first-len c =
    let r = c.args.self.now in
    let is = innermost _ _ c.innermost-first.result _ _ _ (first_and_others r.levels c.innermost-first.result c.innermost-first.ensures) c.requires.free.fits.marks in
    let op = c.new.result in
    let shows = λ (stage : Stage). sym (backs_anywhere op.place op.whole (base r) stage) ∙ c.new.ensures.undoes refl (standing_at r stage) is.book _ is.books_are (entries_of_book _ _ _ _ is.marked) in
    record {
      moves = λ stage. inl (shows stage);
      takes = λ stage room. shows stage;
      asked = record {
        left = part_left op.place op.whole (length r.footprint.writes.writes) c.new.ensures.whole;
        room = record { for_reads = omega arith; for_writes = omega arith };
        numbers = record { own = refl; serial = refl; settings = refl };
        sound = record {
          fits = c.requires.free.fits;
          runs = rw c.requires.free.nothing_due tt;
          holds = (
            record {
              made_for = c.new.ensures.for_attempt _ refl refl;
              along = c.new.ensures.along _ (rw (length-map r.footprint.writes.writes note_of_write) (omega (arith, c.if-first-len.true, c.len.ensures.count)));
              part = c.new.ensures.whole;
              inside = c.requires.open;
            },
            rw c.new.ensures.going refl,
          );
        };
      };
    }

pub returns-else-first-len : goal.returns-else-first-len
unfolding InvariantAt attempt_at left_at reads_under_way writes_under_way accesses_asked reads_asked writes_asked asked_going MayRunOut
returns-else-first-len c =
    let r = c.args.self.now in
    let is = innermost _ _ c.innermost-first.result _ _ _ (first_and_others r.levels c.innermost-first.result c.innermost-first.ensures) c.requires.free.fits.marks in
    let entries : length is.book.writes ≡ c.innermost-first.result.writes.entries = entries_of_book _ _ _ _ is.marked in
    let within : length r.footprint.writes.writes ≤ length is.book.writes = omega (arith, entries, c.if-first-len.false, c.len.ensures.count) in
    let becomes = c.undo_level.ensures.becomes is.book.writes in
    let shows = λ (stage : Stage). becomes.shows ∙ sym (ap (undo_level (standing_at r stage)) is.books_are ∙ nothing_to_release (standing_at r stage) is.book (outer (books_in r.past)) within) in
    let room = c.undo_level.ensures.room in
    record {
      moves = λ stage. inl (shows stage);
      takes = λ stage room. shows stage;
      asked = record {
        left = omega (arith, becomes.left);
        room = record { for_reads = omega (arith, room.for_reads); for_writes = omega (arith, room.for_writes) };
        numbers = becomes.numbers;
        sound = becomes.sound;
      };
    }
