-- What counts and tallies are on a heap.
use Rattle.std.specs.Prelude.{ℕ, ◌+◌, ◌*◌, ◌%◌, ◌^◌, List, map, sum, slice_index, slice_set}
use Rattle.std.specs.List.{range_with_len}

-- the heap with one more in a cell
abbrev pub counted : ℕ → List ℕ → List ℕ
counted cell heap = slice_set heap cell ((slice_index heap cell + 1) % 2 ^ 64)

-- the cell so many steps behind the base
abbrev pub cell_behind : (base step : ℕ) → ℕ
cell_behind base step = (base + 97 * step) % 1000

-- the sum of so many cells from the base on
abbrev pub tally_of : (steps base : ℕ) → List ℕ → ℕ
tally_of steps base heap = sum (map (λ step. slice_index heap (cell_behind base step)) (range_with_len 0 steps)) % 2 ^ 64

-- the sum of ten cells
abbrev pub tally : ℕ → List ℕ → ℕ
tally base heap = tally_of 10 base heap
