-- The turns of before-commit bodies as a loop.
use Rattle.std.proofs.Common.{◌≡◌, ◌≢◌, ℕ, ◌<◌, List, Some, None, Result, refl, sym, ◌∙◌, arith}
use Rattle.ref_table.specs.Seats.{SeatState}
use Rattle.stm_model.specs.Attempt.{Attempt, Ended, Late, Stage, cause_at}
use Rattle.stm_model.specs.CellsState.{Book}
use Rattle.stm_model.specs.Moves.{MayAsk}
use Rattle.stm_model.specs.Owes.{IsPossible, Owes}
use Rattle.stm_model.specs.Whole.{RunLate}
use Rattle.stm_model.specs.World.{Terms, cells_in}
use Rattle.stm_model.specs.declared.access.Ask.TheVariants.{Finish}
use Rattle.stm_model.specs.declared.cause.Cause.{Cause}
use Rattle.stm_model.specs.declared.note.Note.{Note}
use Rattle.txn_drive.specs.Going.{IsAsked}
use Rattle.txn_drive.specs.Standing.{IsOver, Rests}
use Rattle.txn_run.specs.Flights.{MayBeAsked, Stands}
use Rattle.txn_run.specs.Told.{token_at}
use Rattle.txn_run.specs.Turns.{ComesToEnd, GaveLate, InTurn, IsSince, LeftLate, Turning, as_it_was, at_end, in_turn}
use Rattle.txn_run.proofs.Finishing.{finish_ends}
use Rattle.txn_run.proofs.Known.{active_here}
use Rattle.txn_run.proofs.Standing.{rests_waits}
use Rattle.txn_run.proofs.Turning.{turning_from}

-- A body that has ended well may be finished.
pub may_finish : (lawful : List ℕ → Type 0) (may : List ℕ → List ℕ → Type 0) (terms : Terms) (t : Attempt) → Rests t → t.stage ≢ Ended → t.turn ≡ 0
    → (cause_at t.stage ≡ None → Owes lawful may (cells_in terms) t.notes t.now.writes) → MayBeAsked lawful may terms t Finish
unfolding MayAsk
may_finish lawful may terms t rests going first owes = record { waits = rests_waits t rests going; able = first; owes = λ is. owes }

pub late_of : (stage : Stage) (token : ℕ) → token_at stage ≡ Some token → stage ≡ Late token
unfolding token_at
late_of (Late other) token is = let same : other ≡ token = cc is in rw same refl
late_of stage token is = absurd (cc is)

none_late : (stage : Stage) (token : ℕ) → stage ≡ Late token → token_at stage ≡ None → ⊥
unfolding token_at
none_late stage token is none = let never : Some token ≡ None = rw is at none in cc never

module _ {B : Type 0} (Going : Type 0) (late_means : B → ℕ → List ℕ → Book → Result (Unit {0}) Cause → Book → B → Type 0) (late_leaves : B → ℕ → List ℕ → Book → B → Type 0)
    (lawful : List ℕ → Type 0) (may : List ℕ → List ℕ → Type 0) (size : ℕ) (body : B) (reads : List Note) (before : Book) (t : Attempt) (left : B)
    (turning : Turning Going late_means late_leaves lawful may size body reads before t left) where
  pub turn_in : (token : ℕ) → token_at t.stage ≡ Some token → InTurn Going late_means late_leaves lawful may size body reads before t left
  turn_in token is = elim turning [
    | in_turn turn ↦ turn
    | at_end over comes ↦ let never : Late token ≡ Ended = sym (late_of t.stage token is) ∙ over.stage in absurd (cc never)
  ]

  pub owes_in : (token : ℕ) → token_at t.stage ≡ Some token → Owes lawful may size t.notes t.now.writes
  owes_in token is = (turn_in token is).owes

  pub some_turn : (token : ℕ) → token_at t.stage ≡ Some token → 0 < t.turn
  some_turn token is = let more = (turn_in token is).turn in omega (arith, more)

  pub over_then : token_at t.stage ≡ None → IsOver t
  over_then is = elim turning [
    | in_turn turn ↦ absurd (none_late t.stage turn.token turn.stage is)
    | at_end over comes ↦ over
  ]

  pub comes_then : token_at t.stage ≡ None → ComesToEnd lawful size (λ heap book. IsSince Going lawful size reads heap × RunLate late_means heap book.laters body before book left)
      (λ cause heap book. IsSince Going lawful size reads heap × GaveLate late_means heap cause body before book left)
      (λ heap. IsPossible lawful size reads heap × LeftLate Going late_means late_leaves heap body before left) t
  comes_then is = elim turning [
    | in_turn turn ↦ absurd (none_late t.stage turn.token turn.stage is)
    | at_end over comes ↦ comes
  ]

-- The body has ended well, and no before-commit body has had its turn.
pub turning_first : {B : Type 0} (late_means : B → ℕ → List ℕ → Book → Result (Unit {0}) Cause → Book → B → Type 0) (late_leaves : B → ℕ → List ℕ → Book → B → Type 0)
    (lawful : List ℕ → Type 0) (may : List ℕ → List ℕ → Type 0) (terms : Terms) (seat : SeatState) (t u : Attempt) (body : B) → Stands lawful may terms seat t → t.stage ≢ Ended → t.turn ≡ 0
    → (cause_at t.stage ≡ None → Owes lawful may (cells_in terms) t.notes t.now.writes) → IsAsked t Finish u → Rests u
    → Turning (cause_at t.stage ≡ None) late_means late_leaves lawful may (cells_in terms) body t.notes t.now u body
turning_first late_means late_leaves lawful may terms seat t u body stands going first owes asked rests =
    let waits = rests_waits t stands.rests going in
    turning_from late_means late_leaves (cause_at t.stage ≡ None) lawful may (cells_in terms) body t.notes t.now t u body (record {
      waits = waits;
      active = active_here lawful may terms seat t stands.on waits;
      refused = stands.refused;
      owes = owes;
      since = λ same. same;
      earlier = λ heap possible. possible;
      ran = λ same heap possible. rw first (refl, refl);
      leaves = λ heap possible. as_it_was refl;
    }) (finish_ends t u waits asked rests)
