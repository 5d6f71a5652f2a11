-- What a deposit leaves.
use Rattle.std.specs.Prelude.{ℕ, ◌+◌, ◌%◌, ◌^◌, List, slice_index}

-- what is in the account then
abbrev pub deposited : (account amount : ℕ) → List ℕ → ℕ
deposited account amount heap = (slice_index heap account + amount) % 2 ^ 64
