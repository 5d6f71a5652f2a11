-- What becomes of a heap by the bodies.
use Rattle.std.specs.Prelude.{ℕ, ◌+◌, ◌-◌, ◌^◌, not, ◌&&◌, nat_eq, nat_le, nat_lt, if◌then◌else◌, List, slice_index, slice_set, Option, Some, None}
use Rattle.bank_loads.specs.declared.moving.Transfer.{Transfer}
use Rattle.bank_loads.specs.declared.summing.Tally.{Tally}
use Rattle.bank_loads.specs.Counting.{counted}

-- What two cells become by a transfer from the one to the other, where they are two, the one holds the amount and the other has room for it.
abbrev pub after_transfer : Transfer → (there here : ℕ) → Option (ℕ × ℕ)
after_transfer t there here =
    if not (nat_eq t.from.0 t.to.0) && nat_le t.amount there && nat_lt (here + t.amount) (2 ^ 64)
    then Some (there - t.amount, here + t.amount) else None

-- the heap with the two cells as they become, where they change
abbrev pub with_cells : Transfer → List ℕ → Option (ℕ × ℕ) → List ℕ
with_cells t heap None = heap
with_cells t heap (Some cells) = slice_set (slice_set heap t.from.0 cells.0) t.to.0 cells.1

-- the heap after a transfer
abbrev pub transferred : Transfer → List ℕ → List ℕ
transferred t heap = with_cells t heap (after_transfer t (slice_index heap t.from.0) (slice_index heap t.to.0))

-- the heap after a tally
abbrev pub tallied : Tally → List ℕ → List ℕ
tallied t heap = if t.adds then counted t.base heap else heap
