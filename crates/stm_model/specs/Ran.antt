-- What a run of a body on cells promises.
use Rattle.std.specs.Prelude.{◌≡◌, ℕ, ◌≤◌, ◌⊎◌, List, length, Some, None, Result, Ok, Err, IfOk, IfErr}
use Rattle.stm_model.specs.declared.cause.Cause.{Cause}
use Rattle.stm_model.specs.declared.cause.Cause.TheVariants.{Memory}
use Rattle.stm_model.specs.CellsState.{Book, CellsState}
use Rattle.stm_model.specs.Owes.{IsPossible, Owes}
use Rattle.stm_model.specs.Refusing.{IsOfBody}
use Rattle.stm_model.specs.Telling.{Extends, Leads}

-- an answer that the heap decides: each one but that memory is out
abbrev pub IsDecided : {T : Type 0} → Result T Cause → Type 0
IsDecided (Ok out) = Unit {0}
IsDecided (Err Memory) = ⊥
IsDecided (Err cause) = Unit {0}

-- Registrations and runs only came in at the end.
pub record Grows (before after : Book) : Type 0 where
  pub hooks : Extends before.hooks after.hooks
  pub laters : Extends before.laters after.laters
  pub runs : Extends before.runs after.runs

-- A run of a body, by what the body states of itself. `means` tells the answer and the book after, on a heap and a book before; `leaves` tells what the run has made of the body, wherever it ended.
pub record Ran {T : Type 0} (lawful : List ℕ → Type 0) (may : List ℕ → List ℕ → Type 0)
    (means : List ℕ → Book → Result T Cause → Book → Type 0) (leaves : List ℕ → Book → Type 0)
    (answer : Result T Cause) (before after : CellsState) : Type 0 where
  pub size : after.size ≡ before.size
  pub reads : Extends before.reads after.reads
  pub saved : after.cause ≡ None → after.saved ≡ before.saved
  pub levels : length before.saved ≤ length after.saved
  pub grows : after.cause ≡ None → Grows before.now after.now
  pub whole : after.cause ≡ None → IsDecided answer
      → (heap : List ℕ) → IsPossible lawful before.size after.reads heap → means heap before.now answer after.now
  pub left : (heap : List ℕ) → IsPossible lawful before.size after.reads heap → leaves heap before.now
  pub owes : after.cause ≡ None → IfOk answer (λ out. Owes lawful may after.size after.reads after.now.writes)
  pub causes : IfErr answer (λ cause. IsOfBody cause ⊎ (after.cause ≡ Some cause))
  pub again : (earlier : Cause) → before.cause ≡ Some earlier → after.cause ≡ Some earlier

-- From one moment of the cells to another a body ran, with this answer.
abbrev pub Running : {S L T : Type 0} → (L → List ℕ → Type 0) → (L → List ℕ → List ℕ → Type 0)
    → (S → L) → (S → S → Type 0) → (S → CellsState) → S → S
    → (List ℕ → Book → Result T Cause → Book → Type 0) → (List ℕ → Book → Type 0) → Result T Cause → Type 0
Running lawful may law follows state before after means leaves answer =
    Leads law follows state before after (Ran (lawful (law before)) (may (law before)) means leaves answer)
