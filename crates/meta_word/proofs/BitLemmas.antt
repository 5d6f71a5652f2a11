-- Single bits and runs of bits, over plain numbers.
use Rattle.std.proofs.Common.{◌≡◌, ℕ, ◌+◌, ◌-◌, ◌*◌, ◌/◌, ◌%◌, ◌^◌, ◌<◌, Bool, true, false, not, eqb, refl, sym, ap, ◌∙◌, arith}
use Rattle.std.specs.Int.{bit_at, from_bool}
use Rattle.std.specs.Int.Bits.{bit_and, bit_or, or_add_and, and_block}
use Rattle.std.proofs.lemmas.Nat.{and_comm, and_mask, pow_pos}
use Rattle.std.proofs.lemmas.Nat.Bits.{and_pow, and_high, bit_at-lt}

-- ---- a bit as a truth value

pub from_bool_below : (b : Bool) → from_bool b < 2
from_bool_below true = omega arith
from_bool_below false = omega arith

pub truth_of_number : (b : Bool) → eqb (from_bool b) 1 ≡ b
truth_of_number true = refl
truth_of_number false = refl

pub number_of_truth : (n : ℕ) → n < 2 → from_bool (eqb n 1) ≡ n
number_of_truth n h = grind arith

multiple_is_some : (b u : ℕ) → b < 2 → 0 < u → not (eqb (b * u) 0) ≡ eqb b 1
multiple_is_some b u h pos = grind arith

-- what a mask of one bit leaves isn't 0 exactly where the bit is 1
pub mask_tests_bit : (n k : ℕ) → not (eqb (bit_and n (2 ^ k)) 0) ≡ eqb (bit_at n k) 1
mask_tests_bit n k = ap (λ (x : ℕ). not (eqb x 0)) (and_pow n k) ∙ multiple_is_some (bit_at n k) (2 ^ k) (bit_at-lt n k) (pow_pos k)

-- ---- setting and clearing

-- setting a bit adds its worth where it wasn't set
pub or_bit : (n k : ℕ) → bit_or n (2 ^ k) + bit_at n k * 2 ^ k ≡ n + 2 ^ k
or_bit n k = ap (λ (x : ℕ). bit_or n (2 ^ k) + x) (sym (and_pow n k)) ∙ or_add_and n (2 ^ k)

-- a mask of bit h and of the bits from k up to j + k, which is at most h, leaves these fields
pub and_bit_and_run : (h j k b r : ℕ) → b < 2 → r < 2 ^ h → 2 ^ (j + k) - 2 ^ k < 2 ^ h
    → bit_and (1 * 2 ^ h + (2 ^ (j + k) - 2 ^ k)) (b * 2 ^ h + r) ≡ b * 2 ^ h + r / 2 ^ k % 2 ^ j * 2 ^ k
and_bit_and_run h j k b r below rest run =
    and_block h 1 b (2 ^ (j + k) - 2 ^ k) r run rest
    ∙ ap (λ (x : ℕ). x * 2 ^ h + bit_and (2 ^ (j + k) - 2 ^ k) r) lowest
    ∙ ap (λ (x : ℕ). b * 2 ^ h + x) (and_comm (2 ^ (j + k) - 2 ^ k) r ∙ and_high r j k)
  where
    lowest : bit_and 1 b ≡ b
    lowest = and_comm 1 b ∙ and_mask b 1 ∙ (let e : b % 2 ^ 1 ≡ b = omega arith in e)
