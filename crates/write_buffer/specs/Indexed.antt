-- Private: writes with the index of their cells, and the place of a cell's write.
use Rattle.std.specs.Prelude.{◌≡◌, ◌≢◌, ℕ, ◌<◌, List, Option, length, MatchOption}
use Rattle.std.specs.List.{All, HoldsAt}
use Rattle.std.specs.Map.{keys_of}
use Rattle.cell_index.specs.Cells.{Cells, IsIndexOf}
use Rattle.write_buffer.specs.Buffer.{AreApart}

-- No cell is written twice, and the index is one of the written cells.
pub record IsIndexed (index : Cells) (writes : List (ℕ × ℕ)) : Type 0 where
  pub apart : AreApart writes
  pub cells : IsIndexOf index (keys_of writes)

-- The write of the cell stands at this place, or there is none.
abbrev pub IsPlace : List (ℕ × ℕ) → (address : ℕ) → Option ℕ → Type 0
IsPlace writes address found =
    MatchOption found (All (λ write. write.0 ≢ address) writes) (λ place. (place < length writes) × HoldsAt (λ write. write.0 ≡ address) writes place)
