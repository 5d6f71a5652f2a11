-- Heaps, the writes that are put into them, and notes of what was read from them. A heap is the list of its cells' words, by address; a write is an address with a value.
use Rattle.std.specs.Prelude.{◌≡◌, ℕ, ◌^◌, ◌<◌, Bool, nat_eq, if◌then◌else◌, List, [], ◌∷◌, slice_index, slice_set}
use Rattle.std.specs.List.{All, list_any}
use Rattle.std.specs.Map.{keys_of}
use Rattle.stm_model.specs.declared.note.Note.{Note}

-- each number is a word: below 2^64
abbrev pub AreWords : List ℕ → Type 0
AreWords numbers = All (λ number. number < 2 ^ 64) numbers

-- whether a cell is among those written
abbrev pub writes_to : List (ℕ × ℕ) → ℕ → Bool
writes_to writes address = list_any (nat_eq address) (keys_of writes)

-- What becomes of a heap by writes. Where two go to one cell, the one that stands first counts.
abbrev pub over : List ℕ → List (ℕ × ℕ) → List ℕ
over heap [] = heap
over heap (write ∷ writes) = slice_set (over heap writes) write.0 write.1

-- Writes after another one: it replaces a write of its cell where that stands, and is added behind them where there is none.
abbrev pub put : List (ℕ × ℕ) → ℕ → ℕ → List (ℕ × ℕ)
put [] address value = (address, value) ∷ []
put (write ∷ writes) address value =
    if nat_eq address write.0 then (address, value) ∷ writes else write ∷ put writes address value

-- The heap holds what each note says of its cell.
abbrev pub Agrees : List Note → List ℕ → Type 0
Agrees notes heap = All (λ note. slice_index heap note.addr.0 ≡ note.value) notes
