-- Which script a worker runs when.
use Rattle.std.specs.Prelude.{ℕ, zero, suc, ◌+◌, ◌-◌, ◌*◌, ◌/◌, ◌%◌, ◌^◌, ◌<◌, ◌≤◌, Bool, true, false, nat_eq, if◌then◌else◌, List, map}
use Rattle.std.specs.List.{range_with_len}
use Rattle.stm_model.specs.Accesses.{addr_of}
use Rattle.bank_words.specs.declared.task.Load.{Load}
use Rattle.bank_words.specs.declared.task.Load.TheVariants.{Transfers, Hot, Disjoint, Reads, One}
use Rattle.bank_loads.specs.declared.moving.Transfer.{Transfer}
use Rattle.bank_loads.specs.declared.turns.Script.{Script}
use Rattle.bank_loads.specs.declared.turns.Script.TheVariants as script

-- ---- transfers

-- a transfer between two of so many cells
abbrev pub mixed : (cells worker number : ℕ) → Transfer
mixed cells worker number = record {
  from = addr_of ((31 * worker + 17 * number) % cells);
  to = addr_of ((13 * worker + 29 * number + 1) % cells);
  amount = 1 + (7 * worker + number) % 9;
}

-- a transfer of one between the worker's own two cells, to the second and back in turn
abbrev pub back_and_forth : (worker number : ℕ) → Transfer
back_and_forth worker number =
    if nat_eq (number % 2) 0
    then record { from = addr_of (2 * worker - 2); to = addr_of (2 * worker - 1); amount = 1 }
    else record { from = addr_of (2 * worker - 1); to = addr_of (2 * worker - 2); amount = 1 }

-- ---- draws

abbrev pub state_after : ℕ → ℕ
state_after state = (6364136223846793005 * state + 1442695040888963407) % 2 ^ 64

-- the state of a worker's draws before its script of this number
abbrev pub state_of : (worker number : ℕ) → ℕ
state_of worker zero = worker
state_of worker (suc number) = state_after (state_of worker number)

-- the cell that is drawn
abbrev pub base_of : ℕ → ℕ
base_of state = state / 2 ^ 33 % 1000

-- ---- scripts

-- the script of a worker, by its number
abbrev pub script_of : Load → (worker number : ℕ) → Script
script_of Transfers worker number = script.Transfer (mixed 100 worker number)
script_of Hot worker number = script.Transfer (mixed 16 worker number)
script_of Disjoint worker number = script.Transfer (back_and_forth worker number)
script_of Reads worker number = script.Tally (record { base = base_of (state_after (state_of worker number)); adds = nat_eq (number % 10) 9 })
script_of One worker number = script.Count (record { cell = addr_of 0 })

-- The script uses these cells alone.
abbrev pub FitsIn : ℕ → Script → Type 0
FitsIn cells (script.Transfer t) = (t.from.0 < cells) × (t.to.0 < cells)
FitsIn cells (script.Tally t) = (t.base < 1000) × (1000 ≤ cells)
FitsIn cells (script.Count t) = t.cell.0 < cells

-- whether the script adds one to a cell
abbrev pub is_adding : Script → Bool
is_adding (script.Transfer t) = false
is_adding (script.Tally t) = t.adds
is_adding (script.Count t) = true

-- the first scripts of a worker, so many
abbrev pub scripts_of : Load → (worker scripts : ℕ) → List Script
scripts_of load worker scripts = map (script_of load worker) (range_with_len 0 scripts)
