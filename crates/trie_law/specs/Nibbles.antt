-- The way of a key through a trie: the nibbles of its hash, from the lowest on.
use Rattle.std.specs.Prelude.{ℕ, ◌*◌, ◌/◌, ◌%◌, ◌^◌}
use Rattle.ledger_model.specs.Maps.{hash}

-- the nibble that tells where the key goes at a depth, from 0 to 7
unfoldable pub nibble : (depth key : ℕ) → ℕ
nibble depth key = hash key / 2 ^ (4 * depth) % 16

-- the nibbles that a key has gone by on its way down to a depth, as one number
unfoldable pub way : (depth key : ℕ) → ℕ
way depth key = hash key % 2 ^ (4 * depth)
