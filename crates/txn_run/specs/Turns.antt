-- Private: the turns of before-commit bodies, and how an attempt comes to its end.
use Rattle.std.specs.Prelude.{◌≡◌, ℕ, suc, ◌-◌, ◌^◌, ◌⊎◌, List, [], ◌∷◌, ◌++◌, drop, take, IsSome, Option, Some, Result, Err}
use mathlib.Core.List.{IsPrefix}
use Rattle.meta_word.specs.declared.status.Phase.TheVariants.{Active}
use Rattle.stm_model.specs.After.{rolled}
use Rattle.stm_model.specs.Attempt.{Attempt, Late, Stage}
use Rattle.stm_model.specs.CellsState.{Book}
use Rattle.stm_model.specs.Moves.{AwaitsAsk, conclude}
use Rattle.stm_model.specs.Owes.{IsPossible, Owes}
use Rattle.stm_model.specs.Refusing.{IsOfBody, IsOfCells}
use Rattle.stm_model.specs.Whole.{RunLate}
use Rattle.stm_model.specs.declared.cause.Cause.{Cause}
use Rattle.stm_model.specs.declared.ending.Ending.{Ending}
use Rattle.stm_model.specs.declared.ending.Ending.TheVariants.{Committed, Read, Rolled}
use Rattle.stm_model.specs.declared.note.Note.{Note}
use Rattle.txn_drive.specs.Paying.{IsLed}
use Rattle.txn_drive.specs.Standing.{IsOver}
use Rattle.txn_run.specs.Outcomes.{IsWord}
use Rattle.txn_run.specs.declared.callers.Outcome.{Outcome}
use Rattle.txn_run.specs.declared.callers.Outcome.TheVariants as with

-- how many before-commit bodies may still have their turn
unfoldable pub turns_left : Stage → ℕ → ℕ
turns_left (Late token) turn = 2 ^ 64 - turn
turns_left stage turn = 0

-- The run of the body was refused nothing, and the heap was possible by its notes.
pub record IsSince (Going : Type 0) (lawful : List ℕ → Type 0) (size : ℕ) (reads : List Note) (heap : List ℕ) : Type 0 where
  pub going : Going
  pub possible : IsPossible lawful size reads heap

-- A before-commit body answered this cause, after all those before it ran well.
pub record GaveLate {B : Type 0} (late_means : B → ℕ → List ℕ → Book → Result (Unit {0}) Cause → Book → B → Type 0)
    (heap : List ℕ) (cause : Cause) (body : B) (before after : Book) (left : B) : Type 0 where
  pub tokens : List ℕ
  pub token : ℕ
  pub then : Book
  pub next : B
  pub ran : RunLate late_means heap tokens body before then next
  pub front : IsPrefix (tokens ++ token ∷ []) then.laters
  pub gave : late_means next token heap then (Err cause) after left

-- The body is as it was, or, where its run was refused nothing, as a before-commit body leaves it after all those before it ran well.
pub data LeftLate {B : Type 0} (Going : Type 0) (late_means : B → ℕ → List ℕ → Book → Result (Unit {0}) Cause → Book → B → Type 0) (late_leaves : B → ℕ → List ℕ → Book → B → Type 0)
    (heap : List ℕ) (body : B) (before : Book) (left : B) : Type 0 where
  as_it_was : left ≡ body → LeftLate Going late_means late_leaves heap body before left
  by_late : Going → (tokens : List ℕ) (token : ℕ) (book : Book) (next : B) → RunLate late_means heap tokens body before book next → IsPrefix (tokens ++ token ∷ []) book.laters
      → late_leaves next token heap book left → LeftLate Going late_means late_leaves heap body before left

-- A before-commit body has its turn, and so many before it have run well. A heap that is possible now was so by the notes of the body.
pub record InTurn {B : Type 0} (Going : Type 0) (late_means : B → ℕ → List ℕ → Book → Result (Unit {0}) Cause → Book → B → Type 0) (late_leaves : B → ℕ → List ℕ → Book → B → Type 0)
    (lawful : List ℕ → Type 0) (may : List ℕ → List ℕ → Type 0) (size : ℕ) (body : B) (reads : List Note) (before : Book) (t : Attempt) (left : B) : Type 0 where
  pub going : Going
  pub waits : AwaitsAsk t
  pub done : ℕ
  pub turn : t.turn ≡ suc done
  pub token : ℕ
  pub behind : List ℕ
  pub stage : t.stage ≡ Late token
  pub next : drop done t.now.laters ≡ token ∷ behind
  pub owes : Owes lawful may size t.notes t.now.writes
  pub earlier : (heap : List ℕ) → IsPossible lawful size t.notes heap → IsPossible lawful size reads heap
  pub ran : (heap : List ℕ) → IsPossible lawful size t.notes heap → RunLate late_means heap (take done t.now.laters) body before t.now left
  pub leaves : (heap : List ℕ) → IsPossible lawful size t.notes heap → LeftLate Going late_means late_leaves heap body before left

-- An attempt came to its end from this one, whose body, or whose before-commit body, was over then. On each heap that is possible by its notes, `ends` holds where all ran well, `gives` where one answered a cause of its own, and `leaves` in each case. Who was rolled back then was so with a cause of cells or of a body.
pub data ComesToEnd (lawful : List ℕ → Type 0) (size : ℕ) (ends : List ℕ → Book → Type 0) (gives : Cause → List ℕ → Book → Type 0) (leaves : List ℕ → Type 0) (u : Attempt) : Type 0 where
  concluded : (t : Attempt) → AwaitsAsk t → t.phase ≡ Active → IsLed (conclude t t.now.writes) u
      → ((heap : List ℕ) → IsPossible lawful size t.notes heap → ends heap t.now × leaves heap) → ComesToEnd lawful size ends gives leaves u
  rolled_back : (t : Attempt) (cause : Cause) → AwaitsAsk t → t.phase ≡ Active → IsOfCells cause ⊎ IsOfBody cause → IsLed (rolled t cause) u
      → ((heap : List ℕ) → IsPossible lawful size t.notes heap → leaves heap)
      → (IsWord cause → (heap : List ℕ) → IsPossible lawful size t.notes heap → gives cause heap t.now) → ComesToEnd lawful size ends gives leaves u

-- A before-commit body has its turn, or the attempt came to its end.
pub data Turning {B : Type 0} (Going : Type 0) (late_means : B → ℕ → List ℕ → Book → Result (Unit {0}) Cause → Book → B → Type 0) (late_leaves : B → ℕ → List ℕ → Book → B → Type 0)
    (lawful : List ℕ → Type 0) (may : List ℕ → List ℕ → Type 0) (size : ℕ) (body : B) (reads : List Note) (before : Book) (t : Attempt) (left : B) : Type 0 where
  in_turn : InTurn Going late_means late_leaves lawful may size body reads before t left → Turning Going late_means late_leaves lawful may size body reads before t left
  at_end : IsOver t → ComesToEnd lawful size (λ heap book. IsSince Going lawful size reads heap × RunLate late_means heap book.laters body before book left)
      (λ cause heap book. IsSince Going lawful size reads heap × GaveLate late_means heap cause body before book left)
      (λ heap. IsPossible lawful size reads heap × LeftLate Going late_means late_leaves heap body before left) t → Turning Going late_means late_leaves lawful may size body reads before t left

-- How an attempt came to its end, by its outcome.
abbrev pub EndsAs : {T : Type 0} → (List ℕ → Type 0) → ℕ → (T → List ℕ → Book → Type 0) → (Cause → List ℕ → Book → Type 0) → (List ℕ → Type 0) → Attempt → Outcome T → Type 0
EndsAs lawful size ends gives leaves u (with.Committed out stamp) = (u.ending ≡ Some (Committed stamp)) × ComesToEnd lawful size (ends out) gives leaves u
EndsAs lawful size ends gives leaves u (with.Read out prefix) = (u.ending ≡ Some (Read prefix)) × ComesToEnd lawful size (ends out) gives leaves u
EndsAs {T} lawful size ends gives leaves u (with.Rolled cause prefix) =
    (u.ending ≡ Some (Rolled cause prefix)) × ComesToEnd lawful size (λ heap book. (out : T) × ends out heap book) gives leaves u

-- An ending is told as this outcome. Where nothing was answered, the attempt was rolled back.
abbrev pub IsOutcome : {T : Type 0} → Ending → Option T → Outcome T → Type 0
IsOutcome (Committed stamp) (Some out) outcome = outcome ≡ with.Committed out stamp
IsOutcome (Read prefix) (Some out) outcome = outcome ≡ with.Read out prefix
IsOutcome (Rolled cause prefix) out outcome = outcome ≡ with.Rolled cause prefix
IsOutcome ending out outcome = ⊥

-- Only who was rolled back may have answered nothing.
abbrev pub MayEnd : {T : Type 0} → Ending → Option T → Type 0
MayEnd (Rolled cause prefix) out = Unit {0}
MayEnd ending out = IsSome out
