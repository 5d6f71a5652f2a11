-- What the writes of an attempt have to meet before it may commit.
use Rattle.std.specs.Prelude.{◌≡◌, ℕ, List, length}
use Rattle.stm_model.specs.declared.note.Note.{Note}
use Rattle.stm_model.specs.Heap.{Agrees, AreWords, over}

-- The heap may be the one that the notes were read from: it has so many cells, all of them words, it is lawful, and it agrees with the notes.
pub record IsPossible (lawful : List ℕ → Type 0) (size : ℕ) (reads : List Note) (heap : List ℕ) : Type 0 where
  pub cells : length heap ≡ size
  pub words : AreWords heap
  pub keeps_law : lawful heap
  pub agrees : Agrees reads heap

-- Put into any heap that is possible by the notes, the writes make a lawful heap, and one that it may become.
abbrev pub Owes : (List ℕ → Type 0) → (List ℕ → List ℕ → Type 0) → ℕ → List Note → List (ℕ × ℕ) → Type 0
Owes lawful may size reads writes =
    (heap : List ℕ) → IsPossible lawful size reads heap → lawful (over heap writes) × may heap (over heap writes)
