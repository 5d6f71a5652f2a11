-- What blocks and alternatives are on a heap, by what their bodies state of themselves.
use Rattle.std.specs.Prelude.{◌≡◌, ◌≢◌, ℕ, zero, suc, ◌<◌, ◌≤◌, ◌⊎◌, List, [], ◌∷◌, length, Some, None, Result, Ok, Err}
use Rattle.stm_model.specs.declared.cause.Cause.{Cause}
use Rattle.stm_model.specs.declared.cause.Cause.TheVariants.{Retry, TooDeep, User}
use Rattle.stm_model.specs.CellsState.{Book, CellsState, restored}
use Rattle.stm_model.specs.Refusing.{deepest}
use Rattle.or_atomic.specs.declared.kept_or_failed.Nested.{Nested}
use Rattle.or_atomic.specs.declared.kept_or_failed.Nested.TheVariants.{Kept, Failed}

-- Handlers may have run. What is written and registered is as before.
abbrev pub OnlyRuns : Book → Book → Type 0
OnlyRuns before after = after ≡ record before { runs = after.runs }

-- A level ended with such a book and is undone: its handlers for that run, and what is written and registered is as before.
abbrev pub IsUndoneAfter : (Book → Type 0) → (before after : Book) → Type 0
IsUndoneAfter ends before after = (during : Book) × ends during × (after ≡ restored (before ∷ []) during)

-- ---- a block

-- A body that ends well is kept. One that fails with a code is undone, and the code told. One that ends with another cause is undone, and the cause handed on.
abbrev pub NestedMeans : {B T : Type 0} → (B → List ℕ → Book → Result T Cause → Book → B → Type 0)
    → B → List ℕ → Book → Result (Nested T) Cause → Book → B → Type 0
NestedMeans means body heap before (Ok (Kept out)) after left = means body heap before (Ok out) after left
NestedMeans means body heap before (Ok (Failed code)) after left =
    IsUndoneAfter (λ during. means body heap before (Err (User code)) during left) before after
NestedMeans means body heap before (Err cause) after left =
    ((code : ℕ) → cause ≢ User code) × IsUndoneAfter (λ during. means body heap before (Err cause) during left) before after

-- the body as it was, where it wasn't run, or as a run leaves it
abbrev pub NestedLeaves : {B : Type 0} → (B → List ℕ → Book → B → Type 0) → B → List ℕ → Book → B → Type 0
NestedLeaves leaves body heap before left = (left ≡ body) ⊎ leaves body heap before left

-- each answer but that the block was kept
abbrev pub IsUndone : {T : Type 0} → Result (Nested T) Cause → Type 0
IsUndone (Ok (Kept out)) = ⊥
IsUndone answer = Unit {0}

-- ---- alternatives

-- The first alternatives, so many, each ask for a retry and are undone, one after another.
abbrev pub AllRetry : {E T : Type 0} → (E → ℕ → List ℕ → Book → Result T Cause → Book → E → Type 0)
    → ℕ → E → List ℕ → Book → Book → E → Type 0
AllRetry means zero choices heap before after left = (after ≡ before) × (left ≡ choices)
AllRetry {E} means (suc index) choices heap before after left = (next : E) × (book : Book)
    × AllRetry means index choices heap before book next
    × IsUndoneAfter (λ during. means next index heap book (Err Retry) during left) book after

-- All alternatives before one of them ask for a retry: its index, and the alternatives and the book that they leave.
pub record Reached {E T : Type 0} (means : E → ℕ → List ℕ → Book → Result T Cause → Book → E → Type 0)
    (number : ℕ) (choices : E) (heap : List ℕ) (before : Book) : Type 0 where
  pub index : ℕ
  pub within : index < number
  pub next : E
  pub book : Book
  pub retried : AllRetry means index choices heap before book next

-- The first alternative that doesn't ask for a retry is kept where it ends well. Where it ends with another cause it is undone, and the cause handed on. A retry is asked for where all alternatives ask for one.
abbrev pub EitherMeans : {E T : Type 0} → (E → ℕ → List ℕ → Book → Result T Cause → Book → E → Type 0)
    → ℕ → E → List ℕ → Book → Result T Cause → Book → E → Type 0
EitherMeans means number choices heap before (Ok out) after left =
    (reached : Reached means number choices heap before) × means reached.next reached.index heap reached.book (Ok out) after left
EitherMeans means number choices heap before (Err cause) after left =
    ((cause ≡ Retry) × AllRetry means number choices heap before after left)
    ⊎ ((cause ≢ Retry) × (reached : Reached means number choices heap before)
    × IsUndoneAfter (λ during. means reached.next reached.index heap reached.book (Err cause) during left) reached.book after)

-- the alternatives as they were, where none was run, or as the last one that was run leaves them
abbrev pub EitherLeaves : {E T : Type 0} → (E → ℕ → List ℕ → Book → Result T Cause → Book → E → Type 0)
    → (E → ℕ → List ℕ → Book → E → Type 0) → ℕ → E → List ℕ → Book → E → Type 0
EitherLeaves means leaves number choices heap before left =
    (left ≡ choices) ⊎ ((reached : Reached means number choices heap before) × leaves reached.next reached.index heap reached.book left)

-- ---- a level that is refused

-- Where a cause was answered before, it is the answer, and nothing changes. Where none was answered and as many levels are open as may be, or more, the answer is that a further one is too deep, this is the cause from then on, and nothing else changes.
pub record LevelRefused {T : Type 0} (answer : Result T Cause) (before after : CellsState) : Type 0 where
  pub again : (earlier : Cause) → before.cause ≡ Some earlier → (answer ≡ Err earlier) × (after ≡ before)
  pub deep : before.cause ≡ None → deepest ≤ length before.saved
      → (answer ≡ Err (TooDeep deepest)) × (after ≡ record before { cause = Some (TooDeep deepest) })
