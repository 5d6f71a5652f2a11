-- How many cells a load has, and what they are in sum.
use Rattle.std.specs.Prelude.{ℕ, ◌+◌, ◌*◌, ◌/◌}
use Rattle.bank_words.specs.declared.task.Load.{Load}
use Rattle.bank_words.specs.declared.task.Load.TheVariants.{Transfers, Hot, Disjoint, Reads, One}

-- the number of cells, by the number of workers
abbrev pub cells_of : Load → ℕ → ℕ
cells_of Transfers threads = 100
cells_of Hot threads = 16
cells_of Disjoint threads = 2 * threads
cells_of Reads threads = 1000
cells_of One threads = 1

-- how many scripts add one to a cell
abbrev pub additions : Load → (scripts threads : ℕ) → ℕ
additions Reads scripts threads = threads * (scripts / 10)
additions One scripts threads = scripts
additions load scripts threads = 0

-- the sum of all cells once every script has been committed
abbrev pub expected_sum : Load → (scripts threads : ℕ) → ℕ
expected_sum load scripts threads = cells_of load threads * 1000 + additions load scripts threads
