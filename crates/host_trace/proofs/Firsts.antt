-- The first worker that passes a test, along the workers one after another. Here a is the next of them and n the last.
use Rattle.std.proofs.Common.{◌≡◌, ℕ, suc, ◌+◌, ◌-◌, ◌<◌, ◌≤◌, Bool, true, false, if◌then◌else◌, List, [], ◌∷◌, Some, None, get_or, ap, sym, subst, ◌∙◌, arith}
use Rattle.std.specs.List.{find, range_with_len}
use Rattle.std.proofs.lemmas.List.Elements.{All-from_recursion}
use Rattle.std.proofs.lemmas.List.FromFn.{get_or-range_with_len, length-range_with_len}
use Rattle.ledger_model.proofs.Lists.{none_where}

-- those from a on
abbrev pub from_on : ℕ → ℕ → List ℕ
from_on a n = range_with_len a (n + 1 - a)

pub from_more : (a n : ℕ) → a ≤ n → from_on a n ≡ a ∷ from_on (a + 1) n
from_more a n within =
    let more : n + 1 - a ≡ suc (n + 1 - (a + 1)) = omega arith in
    ap (λ (k : ℕ). range_with_len a k) more

pub from_none : (a n : ℕ) → n + 1 ≤ a → from_on a n ≡ []
from_none a n past =
    let none : n + 1 - a ≡ 0 = omega arith in
    ap (λ (k : ℕ). range_with_len a k) none

module _ (test : ℕ → Bool) (a n : ℕ) where
  pub first_here : a ≤ n → test a ≡ true → Some a ≡ find test (from_on a n)
  first_here within passes =
      sym (ap (λ (ps : List ℕ). find test ps) (from_more a n within) ∙ ap (λ (b : Bool). if b then Some a else find test (from_on (a + 1) n)) passes)

  pub first_later : a ≤ n → test a ≡ false → find test (from_on a n) ≡ find test (from_on (a + 1) n)
  first_later within fails =
      ap (λ (ps : List ℕ). find test ps) (from_more a n within) ∙ ap (λ (b : Bool). if b then Some a else find test (from_on (a + 1) n)) fails

  pub first_none : n + 1 ≤ a → find test (from_on a n) ≡ None
  first_none past = ap (λ (ps : List ℕ). find test ps) (from_none a n past)

-- Where none of them passes, this one doesn't.
pub fails_at : (test : ℕ → Bool) (a n p : ℕ) → find test (range_with_len a n) ≡ None → a ≤ p → p < a + n → test p ≡ false
fails_at test a n p none from less =
    let inside : p - a < n = omega (arith, from, less) in
    let there : get_or (range_with_len a n) (p - a) 0 ≡ p = get_or-range_with_len a n (p - a) 0 inside ∙ omega (arith, from) in
    subst (λ (q : ℕ). test q ≡ false) there
    (All-from_recursion (λ q. test q ≡ false) (range_with_len a n) (none_where test (range_with_len a n) none) (p - a) 0 (rw (length-range_with_len a n) inside))
