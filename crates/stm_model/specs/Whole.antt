-- A whole transaction, by what its body states of itself.
use Rattle.std.specs.Prelude.{◌≡◌, ℕ, List, [], ◌∷◌, Result, Ok}
use Rattle.stm_model.specs.declared.cause.Cause.{Cause}
use Rattle.stm_model.specs.CellsState.{Book, empty_book}

-- The before-commit bodies of these tokens run one after another, each from the book and the body that the one before left.
abbrev pub RunLate : {B : Type 0} → (B → ℕ → List ℕ → Book → Result (Unit {0}) Cause → Book → B → Type 0) →
    List ℕ → List ℕ → B → Book → Book → B → Type 0
RunLate late_means heap [] body before after left = (after ≡ before) × (left ≡ body)
RunLate {B} late_means heap (token ∷ tokens) body before after left =
    (book : Book) × (next : B) × late_means body token heap before (Ok tt) book next × RunLate late_means heap tokens next book after left

-- On this heap the body runs from nothing written or registered, and then each before-commit body, in order. All end well, and this is the answer, the book at the end and the body that is left.
pub record Whole {B T : Type 0} (means : B → List ℕ → Book → Result T Cause → Book → B → Type 0)
    (late_means : B → ℕ → List ℕ → Book → Result (Unit {0}) Cause → Book → B → Type 0)
    (body : B) (heap : List ℕ) (out : T) (after : Book) (left : B) : Type 0 where
  pub book : Book
  pub next : B
  pub run : means body heap empty_book (Ok out) book next
  pub lates : RunLate late_means heap after.laters next book after left
