-- Tests of words and of the lines that begin with them, and the names of scripts.
use Rattle.std.proofs.Common.{◌≡◌, ℕ, ◌<◌, ◌^◌, Bool, true, not, nat_eq, IsTrue, List, [], ◌∷◌, ◌++◌, map, sym, refl, ◌∙◌, append_assoc, arith, codes, decimal}
use Rattle.std.proofs.lemmas.Bool.Decides.{nat_tests}
use Rattle.std.proofs.lemmas.Fmt.{decimal_injective}
use Rattle.std.specs.Char.{is_ascii_digit}
use Rattle.std.specs.List.{AllByRecursion, list_all}
use Rattle.text_lines.specs.Lines.{Row as Line, is_nonempty, is_visible, is_word}
use Rattle.text_lines.proofs.Lists.{both, and_true, list_all-join, list_all-weaker, heads_same, front_same}
use Rattle.text_lines.proofs.NumberLemmas.{decimal_digits, decimal_word}
use Rattle.ledger_model.specs.Report.{name_word}
use Rattle.host_report.specs.WithinTypes.{IsNameWithinTypes, IsWord}

-- ---- lists

pub all_pass : {X Y : Type 0} (P : X → Type 0) (p : Y → Bool) (f : X → Y) → ((x : X) → P x → p (f x) ≡ true) → (xs : List X) → AllByRecursion P xs → list_all p (map f xs) ≡ true
all_pass P p f each [] h = refl
all_pass P p f each (x ∷ xs) h = and_true (p (f x)) (list_all p (map f xs)) (each x h.0) (all_pass P p f each xs h.1)

pub all_both : {X : Type 0} (P Q : X → Type 0) (xs : List X) → AllByRecursion P xs → AllByRecursion Q xs → AllByRecursion (λ (x : X). P x × Q x) xs
all_both P Q [] h k = tt
all_both P Q (x ∷ xs) h k = ((h.0, k.0), all_both P Q xs h.1 k.1)

-- ---- words

-- the first byte, or 0
abbrev pub first_byte : List ℕ → ℕ
first_byte [] = 0
first_byte (b ∷ bs) = b

-- the first word of a line, or none
abbrev pub first_word : Line → List ℕ
first_word [] = []
first_word (word ∷ line) = word

pub word_join : (v w : List ℕ) → IsTrue (is_word v) → IsTrue (is_word w) → IsTrue (is_word (v ++ w))
word_join [] w h k = k
word_join (b ∷ v) w h k = list_all-join is_visible (b ∷ v) w h (both (is_nonempty w) (list_all is_visible w) k).1

-- a number's digits are visible
pub digits_seen : (n : ℕ) → IsWord n → list_all is_visible (decimal n) ≡ true
digits_seen n h = (both (is_nonempty (decimal n)) (list_all is_visible (decimal n)) (decimal_word n h)).1

-- ---- names of scripts

abbrev no_point : ℕ → Bool
no_point b = not (nat_eq b 46)

pub small_is_word : (n : ℕ) → n < 2 ^ 16 → IsWord n
small_is_word n h = omega (arith, h)

pub half_is_word : (n : ℕ) → n < 2 ^ 32 → IsWord n
half_is_word n h = omega (arith, h)

pub name_is_word : (worker number : ℕ) → IsNameWithinTypes (worker, number) → IsTrue (is_word (name_word worker number))
name_is_word worker number h =
    word_join (decimal worker ++ codes ".") (decimal number) (word_join (decimal worker) (codes ".") (decimal_word worker (small_is_word worker h.worker)) refl)
    (decimal_word number (half_is_word number h.number))

digit_no_point : (b : ℕ) → is_ascii_digit b ≡ true → no_point b ≡ true
digit_no_point b h = grind (arith, nat_tests)

no_points : (n : ℕ) → IsWord n → list_all no_point (decimal n) ≡ true
no_points n h = list_all-weaker (λ b. is_ascii_digit b) no_point digit_no_point (decimal n) (decimal_digits n h)

pub name_same : (v m w n : ℕ) → IsNameWithinTypes (v, m) → IsNameWithinTypes (w, n) → name_word v m ≡ name_word w n → (v ≡ w) × (m ≡ n)
name_same v m w n h k e =
    let t = front_same no_point (decimal v) (decimal w) (46 ∷ decimal m) (46 ∷ decimal n) (no_points v (small_is_word v h.worker)) (no_points w (small_is_word w k.worker)) refl refl
    (sym (append_assoc (decimal v) (codes ".") (decimal m)) ∙ e ∙ append_assoc (decimal w) (codes ".") (decimal n)) in (
      decimal_injective v w (small_is_word v h.worker) (small_is_word w k.worker) t.0,
      decimal_injective m n (half_is_word m h.number) (half_is_word n k.number) (heads_same 46 46 (decimal m) (decimal n) t.1).1,
    )
