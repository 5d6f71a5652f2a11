-- Private: notes with the index of their cells.
use Rattle.std.specs.Prelude.{List}
use Rattle.cell_index.specs.Cells.{Cells, IsIndexOf}
use Rattle.stm_model.specs.declared.note.Note.{Note}
use Rattle.read_set.specs.Reads.{AreApart, cells_of}

-- No cell is noted twice, and the index is one of their cells.
pub record IsIndexed (index : Cells) (notes : List Note) : Type 0 where
  pub apart : AreApart notes
  pub cells : IsIndexOf index (cells_of notes)
