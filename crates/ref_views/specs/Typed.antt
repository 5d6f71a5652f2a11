-- Cells as values of a type. The value of a cell is the one that its word stands for.
use Rattle.std.specs.Prelude.{◌≡◌, ◌≢◌, ℕ, ◌<◌, Bool, List, length, slice_index, slice_set, Option, Some, None, is_some, IsTrue}
use Rattle.stm_model.specs.CellsState.{CellsState}
use Rattle.stm_model.specs.Heap.{AreWords, over}
use Rattle.stm_model.specs.Owes.{IsPossible}

-- the value of a cell, if its word is one of the type
abbrev pub value_at : {T : Type 0} → (ℕ → Option T) → List ℕ → ℕ → Option T
value_at value_of heap address = value_of (slice_index heap address)

-- The cell holds this value.
abbrev pub Holds : {T : Type 0} → (ℕ → Option T) → ℕ → T → List ℕ → Type 0
Holds value_of address value heap = value_at value_of heap address ≡ Some value

-- The cell holds this value afterwards, and all other cells hold what they held.
pub record Puts {T : Type 0} (word_of : T → ℕ) (value_of : ℕ → Option T) (address : ℕ) (value : T) (before after : List ℕ) : Type 0 where
  pub heap : after ≡ slice_set before address (word_of value)
  pub holds : Holds value_of address value after

-- The cell held the former value, and the new one is put there.
abbrev pub Replaces : {T : Type 0} → (T → ℕ) → (ℕ → Option T) → ℕ → (former new : T) → (before after : List ℕ) → Type 0
Replaces word_of value_of address former new before after = Holds value_of address former before × Puts word_of value_of address new before after

-- whether the word is one of the type
abbrev pub is_word_of : {T : Type 0} → (ℕ → Option T) → ℕ → Bool
is_word_of value_of word = is_some (value_of word)

-- In each lawful heap of so many cells there is this one, and it holds a word of the type.
pub record IsCellOf {T : Type 0} (value_of : ℕ → Option T) (lawful : List ℕ → Type 0) (size address : ℕ) : Type 0 where
  pub within : address < size
  pub holds : (heap : List ℕ) → length heap ≡ size → AreWords heap → lawful heap → IsTrue (is_word_of value_of (slice_index heap address))

-- The cell holds this value in some lawful heap of so many cells.
abbrev pub CanHold : {T : Type 0} → (ℕ → Option T) → (List ℕ → Type 0) → (size address : ℕ) → T → Type 0
CanHold value_of lawful size address value =
    ∥ ((heap : List ℕ) × (length heap ≡ size) × AreWords heap × lawful heap × Holds value_of address value heap) ∥₁

-- ---- at a moment of cells

-- There is this cell. While no cause was answered, it holds such a word in each heap that is possible by the notes, under the writes.
pub record HoldsWord (is_word : ℕ → Bool) (lawful : List ℕ → Type 0) (address : ℕ) (state : CellsState) : Type 0 where
  pub within : address < state.size
  pub holds : state.cause ≡ None → (heap : List ℕ) → IsPossible lawful state.size state.reads heap → IsTrue (is_word (slice_index (over heap state.now.writes) address))

-- the same of the words of a type
abbrev pub HoldsWordOf : {T : Type 0} → (ℕ → Option T) → (List ℕ → Type 0) → ℕ → CellsState → Type 0
HoldsWordOf value_of lawful address state = HoldsWord (is_word_of value_of) lawful address state

-- The cell holds this value in some heap that is possible by the notes, under the writes.
abbrev pub MayHold : {T : Type 0} → (ℕ → Option T) → (List ℕ → Type 0) → ℕ → T → CellsState → Type 0
MayHold value_of lawful address value state =
    ∥ ((heap : List ℕ) × IsPossible lawful state.size state.reads heap × Holds value_of address value (over heap state.now.writes)) ∥₁

-- ---- from one moment to another

-- The cell held this value under the writes before, in each heap that is possible by the notes afterwards.
abbrev pub Held : {T : Type 0} → (ℕ → Option T) → (List ℕ → Type 0) → ℕ → T → (before after : CellsState) → Type 0
Held value_of lawful address value before after =
    (heap : List ℕ) → IsPossible lawful before.size after.reads heap → Holds value_of address value (over heap before.now.writes)

-- Each cell that held a word of a type still does, whatever the type.
abbrev pub KeepsAllWords : {S L : Type 0} → (L → List ℕ → Type 0) → (S → L) → (S → CellsState) → S → S → Type 0
KeepsAllWords lawful law state before after =
    (is_word : ℕ → Bool) (address : ℕ) → HoldsWord is_word (lawful (law before)) address (state before) → HoldsWord is_word (lawful (law after)) address (state after)

-- Each cell that held a word of this type still does, and so does each cell but this one, whatever its type.
pub record KeepsWords {S L T : Type 0} (value_of : ℕ → Option T) (lawful : L → List ℕ → Type 0) (law : S → L) (state : S → CellsState) (used : ℕ) (before after : S) : Type 0 where
  pub alike : (address : ℕ) → HoldsWordOf value_of (lawful (law before)) address (state before) → HoldsWordOf value_of (lawful (law after)) address (state after)
  pub others : (is_word : ℕ → Bool) (address : ℕ) → address ≢ used
      → HoldsWord is_word (lawful (law before)) address (state before) → HoldsWord is_word (lawful (law after)) address (state after)
