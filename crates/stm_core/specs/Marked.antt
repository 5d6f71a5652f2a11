-- Private: the open levels and the books that they lead back to.
use Rattle.std.specs.Prelude.{◌≡◌, ℕ, ◌≤◌, List, [], ◌∷◌, length, slice_get, take, Some}
use Rattle.std.specs.List.{All}
use Rattle.lifecycle.specs.Registered.{Registered}
use Rattle.stm_model.specs.CellsState.{Book}
use Rattle.stm_model.specs.Heap.{writes_to}
use Rattle.stm_model.specs.declared.marks.Level.{Level}
use Rattle.stm_model.specs.declared.marks.WriteMark.{WriteMark}
use Rattle.write_buffer.specs.Buffer.{Buffer, IsMark, IsNoLater, at_mark}

-- So many from the front are these.
pub record IsFront {A : Type 0} (count : ℕ) (list front : List A) : Type 0 where
  pub within : count ≤ length list
  pub same : take count list ≡ front

-- The level leads back to this book, but for the runs.
pub record IsMarked (writes : Buffer) (registered : Registered) (level : Level) (book : Book) : Type 0 where
  pub mark : IsMark writes level.writes
  pub writes_then : at_mark writes level.writes ≡ book.writes
  pub hooks_then : IsFront level.hooks registered.hooks book.hooks
  pub laters_then : IsFront level.laters registered.laters book.laters

-- The second level was entered no later than the first.
pub record IsOuter (inner outer : Level) : Type 0 where
  pub writes : IsNoLater outer.writes inner.writes
  pub hooks : outer.hooks ≤ inner.hooks
  pub laters : outer.laters ≤ inner.laters

-- Each level leads back to its book, and each was entered no earlier than those around it. The innermost comes first.
unfoldable pub AreMarked : Buffer → Registered → List Level → List Book → Type 0
AreMarked writes registered [] [] = Unit {0}
AreMarked writes registered (level ∷ levels) (book ∷ books) = IsMarked writes registered level book × (All (IsOuter level) levels × AreMarked writes registered levels books)
AreMarked writes registered levels books = ⊥

-- Each mark that is no later than the innermost level's is no later than this one.
abbrev pub IsLatest : List Level → WriteMark → Type 0
IsLatest levels latest = (level : Level) → slice_get levels 0 ≡ Some level → (mark : WriteMark) → IsNoLater mark level.writes → IsNoLater mark latest

-- Before this mark the same cells were written as here.
abbrev pub HasFormer : (writes : List (ℕ × ℕ)) → WriteMark → (former : List (ℕ × ℕ)) → Type 0
HasFormer writes mark former = (cell : ℕ) → writes_to (take mark.entries writes) cell ≡ writes_to former cell
