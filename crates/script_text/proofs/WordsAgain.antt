-- Words that are written for numbers, registers and operands say them.
use Rattle.std.proofs.Common.{◌≡◌, ℕ, zero, suc, ◌<◌, ◌≤◌, ◌^◌, true, false, nat_eq, nat_lt, nat_le, IsTrue, List, [], ◌∷◌, Result, Ok, refl, ap, arith, decimal}
use Rattle.std.proofs.lemmas.Bool.Decides.{nat_tests}
use Rattle.std.proofs.lemmas.Fmt.{first_decimal, decimal_digit}
use Rattle.std.specs.List.{list_all}
use Rattle.text_lines.specs.Lines.{is_nonempty, is_visible, is_word}
use Rattle.text_lines.proofs.Lists.{both}
use Rattle.text_lines.proofs.NumberLemmas.{all_digits, decimal_digits, decimal_word, number_of-decimal}
use Rattle.stm_model.specs.declared.cause.HookPhase.{HookPhase}
use Rattle.stm_model.specs.declared.cause.HookPhase.TheVariants.{Preparing, Committing, Commit, Rollback, Completion}
use Rattle.ledger_model.specs.declared.reason.Reason.{Reason}
use Rattle.ledger_model.specs.declared.reason.Reason.TheVariants as reason
use Rattle.ledger_model.specs.declared.script.Operand.{Operand}
use Rattle.ledger_model.specs.declared.script.Operand.TheVariants.{Reg, Number}
use Rattle.ledger_model.specs.Fits.{is_register, fits_word, is_code, operand_fits}
use Rattle.ledger_model.specs.Report.{phase_word}
use Rattle.script_text.specs.Words.{or_reason, number, below, from_one_to, leads_with_zero, register, register_number, begins_with_r, operand_of, code_of, phase_of}
use Rattle.script_text.specs.Line.{one, two, three}
use Rattle.script_text.specs.Printing.{register_word, operand_word}

-- ---- tests of numbers

pub lt_true : (a b : ℕ) → a < b → nat_lt a b ≡ true
lt_true a b h = grind (arith, nat_tests)

pub lt_false : (a b : ℕ) → b ≤ a → nat_lt a b ≡ false
lt_false a b h = grind (arith, nat_tests)

pub true_lt : (a b : ℕ) → nat_lt a b ≡ true → a < b
true_lt a b h = grind (arith, nat_tests)

pub le_true : (a b : ℕ) → a ≤ b → nat_le a b ≡ true
le_true a b h = grind (arith, nat_tests)

pub le_false : (a b : ℕ) → b < a → nat_le a b ≡ false
le_false a b h = grind (arith, nat_tests)

pub true_le : (a b : ℕ) → nat_le a b ≡ true → a ≤ b
true_le a b h = grind (arith, nat_tests)

pub eq_false : (n : ℕ) → 0 < n → nat_eq n 0 ≡ false
eq_false n h = grind (arith, nat_tests)

-- ---- words

-- The word is one of a line, and reading it in this way gives this value.
pub record Says {A : Type 0} (read : List ℕ → Result A Reason) (word : List ℕ) (x : A) : Type 0 where
  pub is_of_line : IsTrue (is_word word)
  pub is : read word ≡ Ok x

number_is : (n : ℕ) → n < 2 ^ 64 → number (decimal n) ≡ Ok n
number_is n h = ap (or_reason reason.Number) (number_of-decimal n h)

pub says_number : (n : ℕ) → fits_word n ≡ true → Says number (decimal n) n
says_number n f = let h = true_lt n (2 ^ 64) f in record { is_of_line = decimal_word n h; is = number_is n h }

pub says_below : (limit n : ℕ) → n < limit → n < 2 ^ 64 → Says (below limit) (decimal n) n
says_below limit n l h = record { is_of_line = decimal_word n h; is = rw (number_is n h, lt_true n limit l) refl }

pub says_from_one : (most n : ℕ) → 1 ≤ n → n ≤ most → n < 2 ^ 64 → Says (from_one_to most) (decimal n) n
says_from_one most n a b h = record { is_of_line = decimal_word n h; is = rw (number_is n h, le_true 1 n a, le_true n most b) refl }

pub says_code : (n : ℕ) → is_code n ≡ true → Says code_of (decimal n) n
says_code n f =
    let e = both (nat_le 1 n) (nat_le n 65535) f in
    let a = true_le 1 n e.0 in let b = true_le n 65535 e.1 in
    says_from_one 65535 n a b (omega (arith, b))

no_zero_first : (n : ℕ) → n < 2 ^ 64 → leads_with_zero (decimal n) ≡ false
no_zero_first zero h = rw (decimal_digit 0 (omega arith)) refl
no_zero_first (suc n) h = let f = first_decimal (suc n) (omega arith) h in grind (arith, nat_tests)

register_is : (r : ℕ) → r < 16 → register_number (decimal r) ≡ Ok r
register_is r h = rw (number_is r (omega arith), lt_false 15 r (omega arith), no_zero_first r (omega arith)) refl

pub says_register : (r : ℕ) → is_register r ≡ true → Says register (register_word r) r
says_register r f =
    let h = true_lt r 16 f in
    record { is_of_line = (both (is_nonempty (decimal r)) (list_all is_visible (decimal r)) (decimal_word r (omega arith))).1; is = register_is r h }

digits_without_r : (word : List ℕ) → all_digits word ≡ true → begins_with_r word ≡ false
digits_without_r [] h = refl
digits_without_r (b ∷ word) h = grind (arith, nat_tests)

pub says_operand : (x : Operand) → operand_fits x ≡ true → Says operand_of (operand_word x) x
says_operand (Reg r) f = let s = says_register r f in record { is_of_line = s.is_of_line; is = rw (register_is r (true_lt r 16 f)) refl }
says_operand (Number n) f =
    let h = true_lt n (2 ^ 64) f in
    record { is_of_line = decimal_word n h; is = rw (digits_without_r (decimal n) (decimal_digits n h), number_is n h) refl }

pub says_phase : (phase : HookPhase) → Says phase_of (phase_word phase) phase
says_phase Preparing = record { is_of_line = refl; is = refl }
says_phase Committing = record { is_of_line = refl; is = refl }
says_phase Commit = record { is_of_line = refl; is = refl }
says_phase Rollback = record { is_of_line = refl; is = refl }
says_phase Completion = record { is_of_line = refl; is = refl }

-- ---- so many words

pub one_says : {A C : Type 0} (a : List ℕ → Result A Reason) (make : A → C) (v : List ℕ) (x : A) → Says a v x → one a make (v ∷ []) ≡ Ok (make x)
one_says a make v x h = rw h.is refl

pub two_say : {A B C : Type 0} (a : List ℕ → Result A Reason) (b : List ℕ → Result B Reason) (make : A → B → C) (v w : List ℕ) (x : A) (y : B)
    → Says a v x → Says b w y → two a b make (v ∷ w ∷ []) ≡ Ok (make x y)
two_say a b make v w x y h k = rw (h.is, k.is) refl

pub three_say : {A B C D : Type 0} (a : List ℕ → Result A Reason) (b : List ℕ → Result B Reason) (c : List ℕ → Result C Reason) (make : A → B → C → D)
    (u v w : List ℕ) (x : A) (y : B) (z : C) → Says a u x → Says b v y → Says c w z → three a b c make (u ∷ v ∷ w ∷ []) ≡ Ok (make x y z)
three_say a b c make u v w x y z h k l = rw (h.is, k.is, l.is) refl
