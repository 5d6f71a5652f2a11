-- Words as numbers.
use Rattle.std.specs.Prelude.{ℕ, ◌^◌, Bool, ◌&&◌, nat_le, nat_lt, if◌then◌else◌, List, length, decimal, Option, Some, None, unwrap_or}
use Rattle.std.specs.Option.{option_map}
use Rattle.std.specs.Char.{is_ascii_digit}
use Rattle.std.specs.List.{list_all}
use Rattle.std.specs.Str.Parse.{digits_value}
use Rattle.text_lines.specs.Lines.{is_nonempty}

-- A number is 1 to 20 decimal digits of a value below 2 ^ 64. It may begin with zeros.
abbrev pub is_number : List ℕ → Bool
is_number word = nat_le (length word) 20 && list_all (λ b. is_ascii_digit b) word && is_nonempty word && nat_lt (digits_value 10 word) (2 ^ 64)

-- the number that a word says
abbrev pub number_of : List ℕ → Option ℕ
number_of word = if is_number word then Some (digits_value 10 word) else None

-- a number without leading zeros, and any other word as it is
abbrev pub plain_word : List ℕ → List ℕ
plain_word word = unwrap_or (option_map decimal (number_of word)) word
