-- What a buffer of writes is to its callers, and what it is rolled back to at a mark.
use Rattle.std.specs.Prelude.{◌≡◌, ℕ, ◌≤◌, nat_eq, List, [], ◌∷◌, length, take, drop, slice_index_or, slice_set}
use Rattle.std.specs.List.{IsDistinct}
use Rattle.std.specs.Map.{keys_of}
use Rattle.stm_model.specs.declared.marks.WriteMark.{WriteMark}

-- the writes in the order in which their cells came, the values that were replaced, the oldest first, each with the index of its write, and the room: how many first writes and how many rewrites more need no memory. A rewrite is a put of a cell that is written.
pub record Buffer : Type 0 where
  pub writes : List (ℕ × ℕ)
  pub replaced : List (ℕ × ℕ)
  pub spare : ℕ
  pub spare_rewrites : ℕ

-- No cell is written twice.
abbrev pub AreApart : List (ℕ × ℕ) → Type 0
AreApart writes = IsDistinct nat_eq (keys_of writes)

-- the writes, where the one at an index has another value
abbrev pub with_value : List (ℕ × ℕ) → ℕ → ℕ → List (ℕ × ℕ)
with_value writes index value = slice_set writes index ((slice_index_or writes index (0, 0)).0, value)

-- the writes when replaced values were restored, the newest first
unfoldable pub restored : List (ℕ × ℕ) → List (ℕ × ℕ) → List (ℕ × ℕ)
restored writes [] = writes
restored writes (former ∷ replaced) = with_value (restored writes replaced) former.0 former.1

-- The buffer can be rolled back to the mark: it has at least as many writes and replaced values as the mark counts.
pub record IsMark (buffer : Buffer) (mark : WriteMark) : Type 0 where
  pub entries : mark.entries ≤ length buffer.writes
  pub restores : mark.restores ≤ length buffer.replaced

-- what the buffer is rolled back to at a mark: the writes that were there then, with the values that they had then
unfoldable pub at_mark : Buffer → WriteMark → List (ℕ × ℕ)
at_mark buffer mark = restored (take mark.entries buffer.writes) (drop mark.restores buffer.replaced)

-- The one mark was taken no later than the other.
pub record IsNoLater (mark other : WriteMark) : Type 0 where
  pub entries : mark.entries ≤ other.entries
  pub restores : mark.restores ≤ other.restores

-- The mark stays one, and what the buffer is rolled back to there stays the same.
pub record Keeps (before after : Buffer) (mark : WriteMark) : Type 0 where
  pub still : IsMark after mark
  pub same : at_mark after mark ≡ at_mark before mark
