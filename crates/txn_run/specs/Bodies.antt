-- What a body and its before-commit bodies did, by what the body states of itself. `tokens` are those of the before-commit bodies that ran well, in order, and `left` is the body as it is left.
use Rattle.std.specs.Prelude.{◌≡◌, ℕ, List, ◌∷◌, ◌++◌, [], Result, Ok, Err}
use mathlib.Core.List.{IsPrefix}
use Rattle.stm_model.specs.Attempt.{Attempt}
use Rattle.stm_model.specs.CellsState.{Book, empty_book}
use Rattle.stm_model.specs.Whole.{RunLate}
use Rattle.stm_model.specs.declared.cause.Cause.{Cause}

-- The body ran well on this heap, from nothing written or registered, and then these before-commit bodies, which are the first that were registered.
pub record RanTo {B T : Type 0} (means : B → List ℕ → Book → Result T Cause → Book → B → Type 0)
    (late_means : B → ℕ → List ℕ → Book → Result (Unit {0}) Cause → Book → B → Type 0)
    (body : B) (heap : List ℕ) (tokens : List ℕ) (out : T) (book : Book) (left : B) : Type 0 where
  pub first : Book
  pub next : B
  pub run : means body heap empty_book (Ok out) first next
  pub lates : RunLate late_means heap tokens next first book left
  pub front : IsPrefix tokens book.laters

-- The body answered this cause on this heap, or a before-commit body did after all those before it ran well.
pub data Gave {B T : Type 0} (means : B → List ℕ → Book → Result T Cause → Book → B → Type 0)
    (late_means : B → ℕ → List ℕ → Book → Result (Unit {0}) Cause → Book → B → Type 0)
    (body : B) (heap : List ℕ) (cause : Cause) (book : Book) (left : B) : Type 0 where
  in_run : means body heap empty_book (Err cause) book left → Gave means late_means body heap cause book left
  in_late : (tokens : List ℕ) (token : ℕ) (out : T) (before : Book) (next : B) → RanTo means late_means body heap tokens out before next
      → IsPrefix (tokens ++ token ∷ []) before.laters → late_means next token heap before (Err cause) book left → Gave means late_means body heap cause book left

-- The body is left as a run on this heap leaves it that may have been cut short, or as a before-commit body leaves it after all those before it ran well.
pub data IsLeft {B T : Type 0} (means : B → List ℕ → Book → Result T Cause → Book → B → Type 0) (leaves : B → List ℕ → Book → B → Type 0)
    (late_means : B → ℕ → List ℕ → Book → Result (Unit {0}) Cause → Book → B → Type 0) (late_leaves : B → ℕ → List ℕ → Book → B → Type 0)
    (body : B) (heap : List ℕ) (left : B) : Type 0 where
  by_run : leaves body heap empty_book left → IsLeft means leaves late_means late_leaves body heap left
  by_late : (tokens : List ℕ) (token : ℕ) (out : T) (before : Book) (next : B) → RanTo means late_means body heap tokens out before next
      → IsPrefix (tokens ++ token ∷ []) before.laters → late_leaves next token heap before left → IsLeft means leaves late_means late_leaves body heap left

-- The attempt has written and registered what this book says.
pub record HasBook (t : Attempt) (book : Book) : Type 0 where
  pub writes : t.now.writes ≡ book.writes
  pub hooks : t.now.hooks ≡ book.hooks
  pub laters : t.now.laters ≡ book.laters
