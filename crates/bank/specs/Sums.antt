-- The sum of all cells, as it is told.
use Rattle.std.specs.Prelude.{◌≡◌, ℕ, ◌<◌, ◌^◌, List, sum}

-- The number is the sum, where a word can hold that.
abbrev pub IsSumOf : ℕ → List ℕ → Type 0
IsSumOf told values = sum values < 2 ^ 64 → told ≡ sum values
