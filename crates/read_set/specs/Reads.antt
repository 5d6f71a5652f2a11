-- What a set of reads is to its callers.
use Rattle.std.specs.Prelude.{ℕ, nat_eq, List, map}
use Rattle.std.specs.List.{IsDistinct}
use Rattle.stm_model.specs.declared.note.Note.{Note}

-- the notes in the order in which they were added, and how many more need no memory
pub record Reads : Type 0 where
  pub notes : List Note
  pub spare : ℕ

-- the cells of the notes
abbrev pub cells_of : List Note → List ℕ
cells_of notes = map (λ note. note.addr.0) notes

-- No cell is noted twice.
abbrev pub AreApart : List Note → Type 0
AreApart notes = IsDistinct nat_eq (cells_of notes)
