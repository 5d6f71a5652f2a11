-- Lists: what holds of each element, one more element at the end, and the first element that passes a test.
use Rattle.std.proofs.Common.{◌≡◌, ◌+◌, ◌∙◌, ℕ, zero, suc, Bool, true, false, cond, if◌then◌else◌, List, [], ◌∷◌, ◌++◌, Option, Some, None, refl, ap, arith, add-zero, append-nil}
use Rattle.std.specs.List.{AllByRecursion, filter, find, range_with_len}
use Rattle.std.specs.Option.{option_or}
use Rattle.std.proofs.lemmas.List.Elements.{filter-append}

-- ---- each element

pub each_weaker : {X : Type 0} (P Q : X → Type 0) → ((x : X) → P x → Q x) → (xs : List X) → AllByRecursion P xs → AllByRecursion Q xs
each_weaker P Q f [] each = tt
each_weaker P Q f (x ∷ xs) each = (f x each.0, each_weaker P Q f xs each.1)

-- ---- one more at the end

pub filter_keeps : {X : Type 0} (test : X → Bool) (xs : List X) (x : X) → test x ≡ true → filter test (xs ++ x ∷ []) ≡ filter test xs ++ x ∷ []
filter_keeps test xs x passes = filter-append test xs (x ∷ []) ∙ ap (λ (b : Bool). filter test xs ++ cond b (x ∷ []) []) passes

pub filter_leaves : {X : Type 0} (test : X → Bool) (xs : List X) (x : X) → test x ≡ false → filter test (xs ++ x ∷ []) ≡ filter test xs
filter_leaves test xs x fails = filter-append test xs (x ∷ []) ∙ ap (λ (b : Bool). filter test xs ++ cond b (x ∷ []) []) fails ∙ append-nil (filter test xs)

pub range_push : (a n : ℕ) → range_with_len a n ++ (a + n) ∷ [] ≡ range_with_len a (suc n)
range_push a zero = ap (λ (k : ℕ). k ∷ []) (add-zero a)
range_push a (suc n) =
    let same : a + suc n ≡ a + 1 + n = omega arith in
    ap (λ (k : ℕ). a ∷ (range_with_len (a + 1) n ++ k ∷ [])) same ∙ ap (λ (ks : List ℕ). a ∷ ks) (range_push (a + 1) n)

-- ---- none passes

some_is_none : (p : ℕ) → Some p ≡ None → ⊥
some_is_none p e = cc

pub none_where : (test : ℕ → Bool) (ps : List ℕ) → find test ps ≡ None → AllByRecursion (λ p. test p ≡ false) ps
none_where test [] none = tt
none_where test (p ∷ ps) none = go (test p) refl none (λ rest. none_where test ps rest) where
  go : (b : Bool) → test p ≡ b → (if b then Some p else find test ps) ≡ None
      → (find test ps ≡ None → AllByRecursion (λ q. test q ≡ false) ps) → (test p ≡ false) × AllByRecursion (λ q. test q ≡ false) ps
  go true is none rest = absurd (some_is_none p none)
  go false is none rest = (is, rest none)

pub neither : (first second : Option ℕ) → option_or first second ≡ None → (first ≡ None) × (second ≡ None)
neither None second none = (refl, none)
neither (Some p) second none = absurd (some_is_none p none)
