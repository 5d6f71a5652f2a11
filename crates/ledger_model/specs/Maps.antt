-- Finite maps as their pairs by ascending key, and how many blocks an operation on one may draw.
use Rattle.std.specs.Prelude.{ℕ, ◌+◌, ◌*◌, ◌/◌, ◌%◌, ◌^◌, nat_eq, bit_xor, count_by, List, Option}
use Rattle.std.specs.Ordering.{nat_cmp}
use Rattle.std.specs.BTreeMap.{insert_entry}
use Rattle.std.specs.Map.{lookup, remove_entry}

-- with the key's value set
abbrev pub put_pair : ℕ → ℕ → List (ℕ × ℕ) → List (ℕ × ℕ)
put_pair key value pairs = insert_entry nat_cmp pairs key value

-- without the key
abbrev pub delete_pair : ℕ → List (ℕ × ℕ) → List (ℕ × ℕ)
delete_pair key pairs = remove_entry (nat_eq key) pairs

-- the key's value, if it has one
abbrev pub value_at : ℕ → List (ℕ × ℕ) → Option ℕ
value_at key pairs = lookup (nat_eq key) pairs

-- the upper half mixed in, and a multiplication by an odd constant, which spreads the low bits upwards
abbrev pub multiplied : ℕ → ℕ
multiplied key = bit_xor key (key / 2 ^ 32) % 2 ^ 32 * 0x9E3779B1 % 2 ^ 32

-- the hash of a key, of 32 bits
unfoldable pub hash : ℕ → ℕ
hash key = bit_xor (multiplied key) (multiplied key / 2 ^ 15)

-- how many keys have the hash of this key
abbrev pub same_hash : ℕ → List (ℕ × ℕ) → ℕ
same_hash key pairs = count_by (λ pair. nat_eq (hash pair.0) (hash key)) pairs

-- The most blocks that setting or removing a key may draw: a path of eight branches, the leaves into which a full one is split, a token, and the leaves of keys that share the hash.
abbrev pub path_allowance : ℕ → List (ℕ × ℕ) → ℕ
path_allowance key pairs = 18 + same_hash key pairs
