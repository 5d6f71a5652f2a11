-- Words as numbers.
use Rattle.std.proofs.Common.{rules, ◌≡◌, ℕ, ◌<◌, ◌≤◌, ◌^◌, Bool, true, false, ◌&&◌, cond, nat_lt, nat_le, if◌then◌else◌, IsTrue, List, [], ◌∷◌, length, decimal, Option, Some, None, unwrap_or, Result, Ok, Err, refl, ap, ◌∙◌, arith}
use Rattle.std.proofs.lemmas.Bool.Decides.{nat_tests}
use Rattle.std.proofs.lemmas.Fmt.{digits_decimal, digits_value-decimal, decimal_nonempty, length-decimal-le, IsAscii-from_digits}
use Rattle.std.proofs.lemmas.Str.{IsUtf8-from_ascii}
use Rattle.std.proofs.lemmas.Str.Parse.{IsNumeralModel, numerals_by_value, parse_digits}
use Rattle.std.specs.Char.{is_ascii_digit}
use Rattle.std.specs.List.{list_all}
use Rattle.std.specs.Option.{option_map}
use Rattle.std.specs.Result.{result_ok}
use Rattle.std.specs.Str.{IsUtf8}
use Rattle.std.specs.Str.Parse.{digits_value, ParsesUnsigned}
use Rattle.text_lines.specs.Lines.{is_nonempty, is_visible, is_word}
use Rattle.text_lines.specs.Numbers.{is_number, number_of, plain_word}
use Rattle.text_lines.proofs.Lists.{both, and_true, list_all-weaker}

abbrev pub all_digits : List ℕ → Bool
all_digits word = list_all (λ b. is_ascii_digit b) word

-- digits and their value in the words of std's laws on parsing
pub own_digits : IsNumeralModel (λ ds. all_digits ds ≡ true) (digits_value 10)
own_digits = numerals_by_value _ (search rules)

test_lt : (a b : ℕ) → a < b → nat_lt a b ≡ true
test_lt a b h = grind (arith, nat_tests)

test_le : (a b : ℕ) → a ≤ b → nat_le a b ≡ true
test_le a b h = grind (arith, nat_tests)

lt_from_test : (a b : ℕ) → nat_lt a b ≡ true → a < b
lt_from_test a b h = grind (arith, nat_tests)

some_from_length : (word : List ℕ) → 0 < length word → is_nonempty word ≡ true
some_from_length [] h = absurd (omega arith)
some_from_length (b ∷ word) h = refl

-- ---- what parsing gives

-- digits are text, and parsing them gives their value where it is below the limit
pub digits_text : (bs : List ℕ) → all_digits bs ≡ true → IsUtf8 bs
digits_text bs h = IsUtf8-from_ascii bs (IsAscii-from_digits bs (own_digits.to bs h))

pub digits_give : {E : Type 0} (bs : List ℕ) (r : Result ℕ E) → all_digits bs ≡ true → ParsesUnsigned 64 10 bs r
    → result_ok r ≡ (if is_nonempty bs && nat_lt (digits_value 10 bs) (2 ^ 64) then Some (digits_value 10 bs) else None)
digits_give {E} bs (Ok x) p h =
    let k = parse_digits own_digits {E = E} 64 bs (Ok x) h p in at_some bs x k.0.0 k.0.1 k.1 where
      at_some : (bs : List ℕ) (x : ℕ) → 0 < length bs → digits_value 10 bs < 2 ^ 64 → x ≡ digits_value 10 bs → Some x ≡ (if is_nonempty bs && nat_lt (digits_value 10 bs) (2 ^ 64) then Some (digits_value 10 bs) else None)
      at_some [] x l m e = absurd (omega arith)
      at_some (c ∷ cs) x l m e = rw (test_lt (digits_value 10 (c ∷ cs)) (2 ^ 64) m) (ap Some e)
digits_give {E} bs (Err y) p h =
    let k = parse_digits own_digits {E = E} 64 bs (Err y) h p in at_none bs k where
      at_none : (bs : List ℕ) → ((0 < length bs) × (digits_value 10 bs < 2 ^ 64) → ⊥)
          → None ≡ (if is_nonempty bs && nat_lt (digits_value 10 bs) (2 ^ 64) then Some (digits_value 10 bs) else None)
      at_none [] k = refl
      at_none (c ∷ cs) k = by (nat_lt (digits_value 10 (c ∷ cs)) (2 ^ 64)) refl where
        by : (b : Bool) → nat_lt (digits_value 10 (c ∷ cs)) (2 ^ 64) ≡ b → None ≡ (if true && nat_lt (digits_value 10 (c ∷ cs)) (2 ^ 64) then Some (digits_value 10 (c ∷ cs)) else None)
        by true e = absurd (k (omega arith, lt_from_test (digits_value 10 (c ∷ cs)) (2 ^ 64) e))
        by false e = rw e refl

-- ---- the decimal digits of a number

-- the decimal digits of a number are digits of that value
pub decimal_digits : (n : ℕ) → n < 2 ^ 64 → all_digits (decimal n) ≡ true
decimal_digits n h = digits_decimal own_digits n h

pub decimal_value : (n : ℕ) → n < 2 ^ 64 → digits_value 10 (decimal n) ≡ n
decimal_value n h = digits_value-decimal own_digits n h

decimal_some : (n : ℕ) → n < 2 ^ 64 → is_nonempty (decimal n) ≡ true
decimal_some n h = some_from_length (decimal n) (decimal_nonempty n h)

digit_visible : (b : ℕ) → is_ascii_digit b ≡ true → is_visible b ≡ true
digit_visible b h = grind (arith, nat_tests)

digits_visible : (word : List ℕ) → all_digits word ≡ true → list_all is_visible word ≡ true
digits_visible = list_all-weaker (λ b. is_ascii_digit b) is_visible digit_visible

-- a number's digits are a word
pub decimal_word : (n : ℕ) → n < 2 ^ 64 → IsTrue (is_word (decimal n))
decimal_word n h = and_true (is_nonempty (decimal n)) (list_all is_visible (decimal n)) (decimal_some n h) (digits_visible (decimal n) (decimal_digits n h))

short : (n : ℕ) → n < 2 ^ 64 → length (decimal n) ≤ 20
short n h = length-decimal-le 20 n (omega arith) (omega arith) h

below_limit : (n v : ℕ) → v ≡ n → n < 2 ^ 64 → nat_lt v (2 ^ 64) ≡ true
below_limit n v e h = test_lt v (2 ^ 64) (omega arith)

decimal_number : (n : ℕ) → n < 2 ^ 64 → is_number (decimal n) ≡ true
decimal_number n h =
    and_true (nat_le (length (decimal n)) 20 && all_digits (decimal n) && is_nonempty (decimal n)) (nat_lt (digits_value 10 (decimal n)) (2 ^ 64))
    (and_true (nat_le (length (decimal n)) 20 && all_digits (decimal n)) (is_nonempty (decimal n))
    (and_true (nat_le (length (decimal n)) 20) (all_digits (decimal n)) (test_le (length (decimal n)) 20 (short n h)) (decimal_digits n h)) (decimal_some n h))
    (below_limit n (digits_value 10 (decimal n)) (decimal_value n h) h)

-- they say that number
pub number_of-decimal : (n : ℕ) → n < 2 ^ 64 → number_of (decimal n) ≡ Some n
number_of-decimal n h = ap (λ (v : Bool). cond v (Some (digits_value 10 (decimal n))) None) (decimal_number n h) ∙ ap Some (decimal_value n h)

-- ---- a word that says a number

is_some_number : (word : List ℕ) (n : ℕ) → number_of word ≡ Some n → (is_number word ≡ true) × (digits_value 10 word ≡ n)
is_some_number word n e = at (is_number word) (digits_value 10 word) e where
  at : (b : Bool) (v : ℕ) → cond b (Some v) None ≡ Some n → (b ≡ true) × (v ≡ n)
  at true v e = (refl, cc)
  at false v e = cc

-- the number is below the limit, and the word that says it is a word
pub number_below : (word : List ℕ) (n : ℕ) → number_of word ≡ Some n → n < 2 ^ 64
number_below word n e =
    let h = is_some_number word n e in
    let l = lt_from_test (digits_value 10 word) (2 ^ 64) (both (nat_le (length word) 20 && all_digits word && is_nonempty word) (nat_lt (digits_value 10 word) (2 ^ 64)) h.0).1 in
    at (digits_value 10 word) h.1 l where
      at : (v : ℕ) → v ≡ n → v < 2 ^ 64 → n < 2 ^ 64
      at v e l = omega arith

pub number_word : (word : List ℕ) (n : ℕ) → number_of word ≡ Some n → IsTrue (is_word word)
number_word word n e =
    let h = is_some_number word n e in
    let a = both (nat_le (length word) 20 && all_digits word && is_nonempty word) (nat_lt (digits_value 10 word) (2 ^ 64)) h.0 in
    let b = both (nat_le (length word) 20 && all_digits word) (is_nonempty word) a.0 in
    let d = both (nat_le (length word) 20) (all_digits word) b.0 in
    and_true (is_nonempty word) (list_all is_visible word) b.1 (digits_visible word d.1)

-- ---- the plain form

-- the plain form by what the word says, and what it keeps
pub plain_number : (word : List ℕ) (n : ℕ) → number_of word ≡ Some n → plain_word word ≡ decimal n
plain_number word n e = ap (λ (o : Option ℕ). unwrap_or (option_map decimal o) word) e

pub plain_other : (word : List ℕ) → number_of word ≡ None → plain_word word ≡ word
plain_other word e = ap (λ (o : Option ℕ). unwrap_or (option_map decimal o) word) e

pub plain_decimal : (n : ℕ) → n < 2 ^ 64 → plain_word (decimal n) ≡ decimal n
plain_decimal n h = plain_number (decimal n) n (number_of-decimal n h)

pub number_of-plain : (word : List ℕ) → number_of (plain_word word) ≡ number_of word
number_of-plain word = at (number_of word) refl where
  at : (o : Option ℕ) → number_of word ≡ o → number_of (unwrap_or (option_map decimal o) word) ≡ o
  at None e = e
  at (Some n) e = number_of-decimal n (number_below word n e)

pub plain-plain : (word : List ℕ) → plain_word (plain_word word) ≡ plain_word word
plain-plain word = at (number_of word) refl where
  at : (o : Option ℕ) → number_of word ≡ o → plain_word (unwrap_or (option_map decimal o) word) ≡ unwrap_or (option_map decimal o) word
  at None e = plain_other word e
  at (Some n) e = plain_decimal n (number_below word n e)

pub plain_is_word : (word : List ℕ) → IsTrue (is_word word) → IsTrue (is_word (plain_word word))
plain_is_word word h = at (number_of word) refl where
  at : (o : Option ℕ) → number_of word ≡ o → IsTrue (is_word (unwrap_or (option_map decimal o) word))
  at None e = h
  at (Some n) e = decimal_word n (number_below word n e)
