-- Which words stand for which values of a type.
use Rattle.std.specs.Prelude.{ℕ, ◌^◌, Bool, true, false, nat_eq, nat_lt, if◌then◌else◌, Option, Some, None}
use lib.Utf8.{scalar}

-- a word below 2^32 is that number
abbrev pub u32_value : ℕ → Option ℕ
u32_value word = if nat_lt word (2 ^ 32) then Some word else None

abbrev pub bool_word : Bool → ℕ
bool_word false = 0
bool_word true = 1

-- 0 is false and 1 is true, and no other word is one of them
abbrev pub bool_value : ℕ → Option Bool
bool_value word = if nat_eq word 0 then Some false else if nat_eq word 1 then Some true else None

-- the code of a character: at most 0x10FFFF, and no surrogate
abbrev pub char_value : ℕ → Option ℕ
char_value word = if scalar word then Some word else None
