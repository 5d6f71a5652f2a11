-- Histories: what committed, in order, over an opening heap.
use Rattle.std.specs.Prelude.{◌≡◌, ℕ, zero, suc, ◌<◌, nat_eq, if◌then◌else◌, List, [], length, map, slice_index, slice_index_or}
use Rattle.std.specs.List.{All, IsDistinct}
use Rattle.std.specs.Map.{keys_of, values_of}
use Rattle.stm_model.specs.declared.note.Note.{Note}
use Rattle.stm_model.specs.Heap.{AreWords, over, writes_to}

-- a committed attempt: whose it was, its number among that caller's attempts, what it had read, and what it wrote
pub record Entry : Type 0 where
  pub caller : ℕ
  pub serial : ℕ
  pub reads : List Note
  pub writes : List (ℕ × ℕ)

-- No cell is noted twice and none is written twice, and what is written are words.
pub record IsEntry (entry : Entry) : Type 0 where
  pub reads_apart : IsDistinct nat_eq (map (λ note. note.addr.0) entry.reads)
  pub writes_apart : IsDistinct nat_eq (keys_of entry.writes)
  pub words : AreWords (values_of entry.writes)

-- what stands past the end of a history
abbrev pub no_entry : Entry
no_entry = record { caller = 0; serial = 0; reads = []; writes = [] }

-- The entry that follows the first n of them. It has the number n + 1.
abbrev pub entry_after : List Entry → ℕ → Entry
entry_after history n = slice_index_or history n no_entry

-- what the opening heap has become when n entries have been written to it, in order
unfoldable pub state : List ℕ → List Entry → ℕ → List ℕ
state opening history zero = opening
state opening history (suc n) = over (state opening history n) (entry_after history n).writes

-- A cell's last writer, by its number, when n entries are in. It is 0 as long as none writes the cell.
unfoldable pub last : List Entry → ℕ → ℕ → ℕ
last history zero address = 0
last history (suc n) address =
    if writes_to (entry_after history n).writes address then suc n else last history n address

-- When n entries are in, the note still tells its cell's word, and its version is the cell's last writer.
pub record IsCurrent (opening : List ℕ) (history : List Entry) (n : ℕ) (note : Note) : Type 0 where
  pub value : slice_index (state opening history n) note.addr.0 ≡ note.value
  pub version : note.version ≡ last history n note.addr.0

-- The opening heap is one of words, and each entry's notes were current when those before it were in.
pub record IsLegal (opening : List ℕ) (history : List Entry) : Type 0 where
  pub opening_words : AreWords opening
  pub entries : All IsEntry history
  pub reads : (n : ℕ) → n < length history → All (IsCurrent opening history n) (entry_after history n).reads
