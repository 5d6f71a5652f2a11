-- What a run only adds to, what it leaves as it was, and how much it can add.
use Rattle.std.specs.Prelude.{◌≡◌, ℕ, ◌+◌, ◌<◌, false, List, [], ◌∷◌, ◌++◌, length}
use Rattle.std.specs.List.{AllByRecursion}
use Rattle.stm_model.specs.Telling.{Extends}
use Rattle.stm_model.specs.Pairs.{KeysAscend}
use Rattle.ledger_model.specs.declared.job.Contents.{Contents}
use Rattle.ledger_model.specs.Run.{State, allowance}

-- each is greater than the one before it, and the first than `low`
unfoldable pub Rises : ℕ → List ℕ → Type 0
Rises low [] = Unit {0}
Rises low (n ∷ more) = (low < n) × Rises n more

-- Each new total is greater than the one before it.
abbrev pub TotalsRise : State → State → Type 0
TotalsRise before after = (more : List ℕ) × (after.totals ≡ before.totals ++ more) × Rises (allowance before) more

-- What was printed, registered, run or added up stays in front of what came later.
pub record Grows (before after : State) : Type 0 where
  pub prints : Extends before.prints after.prints
  pub trail : Extends before.trail after.trail
  pub hooks : Extends before.hooks after.hooks
  pub runs : Extends before.runs after.runs
  pub totals : TotalsRise before after

-- With nothing written there was nothing written before, and the contents are the same.
abbrev pub SameUnlessWritten : State → State → Type 0
SameUnlessWritten before after = after.wrote ≡ false → (before.wrote ≡ false) × (after.contents ≡ before.contents)

-- There are as many registers, references, maps, slots and blocks in use as before.
pub record SameSizes (before after : State) : Type 0 where
  pub registers : length after.registers ≡ length before.registers
  pub refs : length after.contents.refs ≡ length before.contents.refs
  pub maps : length after.contents.maps ≡ length before.contents.maps
  pub slots : length after.contents.slots ≡ length before.contents.slots
  pub used : after.contents.used ≡ before.contents.used

-- The pairs of each map and of each slot stand by ascending keys, each key once.
abbrev pub MapsAscend : Contents → Type 0
MapsAscend contents = AllByRecursion KeysAscend contents.maps × AllByRecursion KeysAscend contents.slots

-- how many numbers were ever printed, totals noted, handlers registered, and handlers run at undone blocks
abbrev pub recorded : State → ℕ
recorded s = length s.trail + length s.totals + length s.hooks + length s.runs

-- The maps, the slots and the blocks in use are the same, and no operation on maps drew anything.
pub record LeavesMaps (before after : State) : Type 0 where
  pub totals : after.totals ≡ before.totals
  pub maps : after.contents.maps ≡ before.contents.maps
  pub slots : after.contents.slots ≡ before.contents.slots
  pub used : after.contents.used ≡ before.contents.used
