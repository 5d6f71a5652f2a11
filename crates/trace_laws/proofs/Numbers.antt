-- Numbers in ascending order, and parts of a list by number.
use Rattle.std.proofs.Common.{◌≡◌, ◌≢◌, inl, inr, ℕ, zero, suc, ◌+◌, ◌<◌, ◌≤◌, Bool, true, false, cond, List, [], ◌∷◌, ◌++◌, map, refl, sym, ap, ◌∙◌, append-nil, arith}
use Rattle.std.specs.List.{AllByRecursion, filter, flat_map, range_with_len}
use Rattle.std.proofs.lemmas.Bool.{cases_eq}
use Rattle.std.proofs.lemmas.List.Elements.{filter-append}
use Rattle.ledger_model.proofs.Lists.{each_weaker}
use Rattle.trace_laws.proofs.Lists.{Has, Ordered, each_has, ordered_same}

abbrev pub Ascends : List ℕ → Type 0
Ascends ns = Ordered (λ i j. i < j) ns

abbrev pub IsBetween : ℕ → ℕ → ℕ → Type 0
IsBetween a n i = (a ≤ i) × (i < a + n)

pub each_in_range : (a n : ℕ) → AllByRecursion (IsBetween a n) (range_with_len a n)
each_in_range a zero = tt
each_in_range a (suc n) =
    ((omega arith, omega arith), each_weaker (IsBetween (a + 1) n) (IsBetween a (suc n)) (λ i between. (omega arith, omega arith)) (range_with_len (a + 1) n) (each_in_range (a + 1) n))

pub range_ascends : (a n : ℕ) → Ascends (range_with_len a n)
range_ascends a zero = tt
range_ascends a (suc n) =
    (each_weaker (IsBetween (a + 1) n) (λ i. a < i) (λ i between. omega arith) (range_with_len (a + 1) n) (each_in_range (a + 1) n), range_ascends (a + 1) n)

pub Has-range : (a n i : ℕ) → IsBetween a n i → Has i (range_with_len a n)
Has-range a zero i between = absurd (omega arith)
Has-range a (suc n) i between = elim (cases_eq i a) [
  | inl is ↦ inl is
  | inr other ↦ inr (Has-range (a + 1) n i (omega arith))
]

-- Numbers that ascend, and are all those of a range, are that range.
pub counts_up : (a n : ℕ) (ns : List ℕ) → Ascends ns → AllByRecursion (IsBetween a n) ns → ((i : ℕ) → IsBetween a n i → Has i ns) → ns ≡ range_with_len a n
counts_up a n ns ascends each all =
    ordered_same (λ i j. i < j) (λ i j less more. omega arith) ns (range_with_len a n) ascends (range_ascends a n)
    (λ i has. Has-range a n i (each_has (IsBetween a n) ns i each has))
    (λ i has. all i (each_has (IsBetween a n) (range_with_len a n) i (each_in_range a n) has))

-- ---- one part of many

-- Of the parts those of all other numbers have nothing that passes.
module _ {X : Type 0} (test : X → Bool) (part : ℕ → List X) (p : ℕ) (others : (q : ℕ) → q ≢ p → filter test (part q) ≡ []) where
  pub no_part : (qs : List ℕ) → AllByRecursion (λ q. q ≢ p) qs → filter test (flat_map part qs) ≡ []
  no_part [] each = refl
  no_part (q ∷ qs) each =
      filter-append test (part q) (flat_map part qs) ∙ ap (λ (xs : List X). xs ++ filter test (flat_map part qs)) (others q each.0) ∙ no_part qs each.1

  pub one_part : (qs : List ℕ) → Ascends qs → Has p qs → filter test (flat_map part qs) ≡ filter test (part p)
  one_part [] ascends has = absurd has
  one_part (q ∷ qs) ascends has =
      filter-append test (part q) (flat_map part qs) ∙ elim (cases_eq q p) [
        | inl is ↦
            ap (λ (xs : List X). filter test (part q) ++ xs) (no_part qs (each_weaker (λ r. q < r) (λ r. r ≢ p) (λ r less same. omega arith) qs ascends.0))
            ∙ append-nil (filter test (part q)) ∙ ap (λ (r : ℕ). filter test (part r)) is
        | inr other ↦
            ap (λ (xs : List X). xs ++ filter test (flat_map part qs)) (others q other) ∙ one_part qs ascends.1 (behind q qs other has)
      ] where
        behind : (q : ℕ) (qs : List ℕ) → q ≢ p → Has p (q ∷ qs) → Has p qs
        behind q qs other has = elim has [ inl is ↦ absurd (other (sym is)) | inr there ↦ there ]

-- what passes, each in a part of its own
pub map_filter : {X Y : Type 0} (f : X → Y) (test : X → Bool) (xs : List X) → map f (filter test xs) ≡ flat_map (λ x. cond (test x) (f x ∷ []) []) xs
map_filter f test [] = refl
map_filter {X = X} {Y = Y} f test (x ∷ xs) = go (test x) (map_filter f test xs) where
  go : (b : Bool) → map f (filter test xs) ≡ flat_map (λ x. cond (test x) (f x ∷ []) []) xs
      → map f (cond b (x ∷ filter test xs) (filter test xs)) ≡ cond b (f x ∷ []) [] ++ flat_map (λ x. cond (test x) (f x ∷ []) []) xs
  go true rest = ap (λ (ys : List Y). f x ∷ ys) rest
  go false rest = rest
