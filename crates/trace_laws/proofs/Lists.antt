-- Elements of lists, and lists in which each element stands in one relation to all behind it.
use Rattle.std.proofs.Common.{◌≡◌, ◌⊎◌, inl, inr, suc, Bool, true, false, cond, List, [], ◌∷◌, ◌++◌, map, refl, sym, ap, subst, ◌∙◌, arith}
use Rattle.std.specs.List.{AllByRecursion, AllPairs, filter, flat_map}
use Rattle.std.specs.List.Sorted.{IsPermutation}
use Rattle.std.proofs.lemmas.Bool.{both_ways}
use Rattle.std.proofs.lemmas.List.Elements.{All-from_recursion, recursion_from_All}
use Rattle.std.proofs.lemmas.List.Kept.{AllPairs-cons}
use Rattle.std.proofs.lemmas.List.Sorted.{All-permutation, IsPermutation-sym}
use Rattle.ledger_model.proofs.Lists.{each_weaker}

-- ---- elements

-- x is one of the list
abbrev pub Has : {X : Type 0} → X → List X → Type 0
Has x [] = ⊥
Has x (y ∷ ys) = (x ≡ y) ⊎ Has x ys

pub each_has : {X : Type 0} (P : X → Type 0) (xs : List X) (x : X) → AllByRecursion P xs → Has x xs → P x
each_has P [] x each has = absurd has
each_has P (y ∷ ys) x each has = elim has [
  | inl is ↦ subst P (sym is) each.0
  | inr behind ↦ each_has P ys x each.1 behind
]

pub each_from : {X : Type 0} (P : X → Type 0) (xs : List X) → ((x : X) → Has x xs → P x) → AllByRecursion P xs
each_from P [] f = tt
each_from P (x ∷ xs) f = (f x (inl refl), each_from P xs (λ y has. f y (inr has)))

pub each_both : {X : Type 0} (P Q R : X → Type 0) → ((x : X) → P x → Q x → R x) → (xs : List X) → AllByRecursion P xs → AllByRecursion Q xs → AllByRecursion R xs
each_both P Q R f [] ps qs = tt
each_both P Q R f (x ∷ xs) ps qs = (f x ps.0 qs.0, each_both P Q R f xs ps.1 qs.1)

pub each_append : {X : Type 0} (P : X → Type 0) (xs ys : List X) → AllByRecursion P xs → AllByRecursion P ys → AllByRecursion P (xs ++ ys)
each_append P [] ys each more = more
each_append P (x ∷ xs) ys each more = (each.0, each_append P xs ys each.1 more)

pub each_push : {X : Type 0} (P : X → Type 0) (xs : List X) (x : X) → AllByRecursion P xs → P x → AllByRecursion P (xs ++ x ∷ [])
each_push P xs x each last = each_append P xs (x ∷ []) each (last, tt)

pub each_map : {X Y : Type 0} (P : Y → Type 0) (f : X → Y) (xs : List X) → AllByRecursion (λ x. P (f x)) xs → AllByRecursion P (map f xs)
each_map P f [] each = tt
each_map P f (x ∷ xs) each = (each.0, each_map P f xs each.1)

pub each_mapped : {X Y : Type 0} (P : Y → Type 0) (f : X → Y) (xs : List X) → AllByRecursion P (map f xs) → AllByRecursion (λ x. P (f x)) xs
each_mapped P f [] each = tt
each_mapped P f (x ∷ xs) each = (each.0, each_mapped P f xs each.1)

pub each_flat_map : {X Y : Type 0} (P : Y → Type 0) (f : X → List Y) (xs : List X) → AllByRecursion (λ x. AllByRecursion P (f x)) xs → AllByRecursion P (flat_map f xs)
each_flat_map P f [] each = tt
each_flat_map P f (x ∷ xs) each = each_append P (f x) (flat_map f xs) each.0 (each_flat_map P f xs each.1)

pub Has-map : {X Y : Type 0} (f : X → Y) (xs : List X) (x : X) → Has x xs → Has (f x) (map f xs)
Has-map f [] x has = absurd has
Has-map f (y ∷ ys) x has = elim has [ inl is ↦ inl (ap f is) | inr behind ↦ inr (Has-map f ys x behind) ]

pub Has-middle : {X : Type 0} (before : List X) (x : X) (behind : List X) → Has x (before ++ x ∷ behind)
Has-middle [] x behind = inl refl
Has-middle (y ∷ before) x behind = inr (Has-middle before x behind)

-- ---- elements in another order

pub each_permutation : {X : Type 0} (P : X → Type 0) (xs ys : List X) → IsPermutation xs ys → AllByRecursion P xs → AllByRecursion P ys
each_permutation P xs ys moved each = recursion_from_All P ys (All-permutation P xs ys moved (All-from_recursion P xs each))

pub Has-permutation : {X : Type 0} (xs ys : List X) → IsPermutation xs ys → (x : X) → Has x xs → Has x ys
Has-permutation {X = X} xs ys moved x has =
    let P : X → Type 0 = λ x. Has x ys in
    each_has P xs x (each_permutation P ys xs (IsPermutation-sym xs ys moved) (each_from P ys (λ y there. there))) has

-- ---- elements that pass a test

module _ {X : Type 0} (test : X → Bool) where
  -- the first element, where it passes, before those behind
  abbrev with_first : Bool → X → List X → List X
  with_first b x rest = cond b (x ∷ rest) rest

  each_first : (P : X → Type 0) (b : Bool) (x : X) (rest : List X) → (b ≡ true → P x) → AllByRecursion P rest → AllByRecursion P (with_first b x rest)
  each_first P true x rest first each = (first refl, each)
  each_first P false x rest first each = each

  pub each_passing : (P : X → Type 0) (xs : List X) → AllByRecursion (λ x. test x ≡ true → P x) xs → AllByRecursion P (filter test xs)
  each_passing P [] each = tt
  each_passing P (x ∷ xs) each = each_first P (test x) x (filter test xs) each.0 (each_passing P xs each.1)

  pub each_filter : (P : X → Type 0) (xs : List X) → AllByRecursion P xs → AllByRecursion P (filter test xs)
  each_filter P xs each = each_passing P xs (each_weaker P (λ x. test x ≡ true → P x) (λ x here passes. here) xs each)

  Has-first : (b : Bool) (x y : X) (rest : List X) → b ≡ true → x ≡ y → Has x (with_first b y rest)
  Has-first true x y rest passes is = inl is
  Has-first false x y rest passes is = absurd (both_ways false refl passes)

  Has-behind : (b : Bool) (x y : X) (rest : List X) → Has x rest → Has x (with_first b y rest)
  Has-behind true x y rest has = inr has
  Has-behind false x y rest has = has

  pub Has-filter : (xs : List X) (x : X) → test x ≡ true → Has x xs → Has x (filter test xs)
  Has-filter [] x passes has = has
  Has-filter (y ∷ ys) x passes has = elim has [
    | inl is ↦ Has-first (test y) x y (filter test ys) (subst (λ (z : X). test z ≡ true) is passes) is
    | inr behind ↦ Has-behind (test y) x y (filter test ys) (Has-filter ys x passes behind)
  ]

  pub Has-from_filter : (xs : List X) (x : X) → Has x (filter test xs) → Has x xs × (test x ≡ true)
  Has-from_filter xs x has =
      let P : X → Type 0 = λ x. Has x xs × (test x ≡ true) in
      each_has P (filter test xs) x (each_passing P xs (each_from (λ x. test x ≡ true → P x) xs (λ y there passes. (there, passes)))) has

  pub filter_all : (xs : List X) → AllByRecursion (λ x. test x ≡ true) xs → filter test xs ≡ xs
  filter_all [] each = refl
  filter_all (x ∷ xs) each = ap (λ (b : Bool). with_first b x (filter test xs)) each.0 ∙ ap (λ (ys : List X). x ∷ ys) (filter_all xs each.1)

  pub filter_none : (xs : List X) → AllByRecursion (λ x. test x ≡ false) xs → filter test xs ≡ []
  filter_none [] each = refl
  filter_none (x ∷ xs) each = ap (λ (b : Bool). with_first b x (filter test xs)) each.0 ∙ filter_none xs each.1

-- ---- lists in order

-- each element stands in the relation to all behind it
abbrev pub Ordered : {X : Type 0} → (X → X → Type 0) → List X → Type 0
Ordered R [] = Unit {0}
Ordered R (x ∷ xs) = AllByRecursion (R x) xs × Ordered R xs

-- as std says it, and back
pub from_pairs : {X : Type 0} (R : X → X → Type 0) (xs : List X) → AllPairs R xs → Ordered R xs
from_pairs R [] pairs = tt
from_pairs R (x ∷ xs) pairs = (
  recursion_from_All (R x) xs (λ k d within. pairs 0 (suc k) d (omega arith) (omega (arith, within))),
  from_pairs R xs (λ i j d less within. pairs (suc i) (suc j) d (omega (arith, less)) (omega (arith, within))),
)

pub all_pairs : {X : Type 0} (R : X → X → Type 0) (xs : List X) → Ordered R xs → AllPairs R xs
all_pairs R [] order = λ i j d less within. absurd (omega (arith, within))
all_pairs R (x ∷ xs) order = AllPairs-cons R x xs (All-from_recursion (R x) xs order.0) (all_pairs R xs order.1)

pub Ordered-weaker : {X : Type 0} (R S : X → X → Type 0) (P : X → Type 0) → ((x y : X) → P x → P y → R x y → S x y) → (xs : List X) → AllByRecursion P xs → Ordered R xs → Ordered S xs
Ordered-weaker R S P f [] each order = tt
Ordered-weaker R S P f (x ∷ xs) each order =
    (each_both P (R x) (S x) (λ y here before. f x y each.0 here before) xs each.1 order.0, Ordered-weaker R S P f xs each.1 order.1)

pub Ordered-append : {X : Type 0} (R : X → X → Type 0) (xs ys : List X) → Ordered R xs → Ordered R ys → AllByRecursion (λ x. AllByRecursion (R x) ys) xs → Ordered R (xs ++ ys)
Ordered-append R [] ys first second across = second
Ordered-append R (x ∷ xs) ys first second across =
    (each_append (R x) xs ys first.0 across.0, Ordered-append R xs ys first.1 second across.1)

pub Ordered-push : {X : Type 0} (R : X → X → Type 0) (xs : List X) (x : X) → Ordered R xs → AllByRecursion (λ earlier. R earlier x) xs → Ordered R (xs ++ x ∷ [])
Ordered-push R [] x order each = (tt, tt)
Ordered-push R (first ∷ xs) x order each = (each_push (R first) xs x order.0 each.0, Ordered-push R xs x order.1 each.1)

pub Ordered-map : {X Y : Type 0} (R : Y → Y → Type 0) (f : X → Y) (xs : List X) → Ordered (λ x y. R (f x) (f y)) xs → Ordered R (map f xs)
Ordered-map R f [] order = tt
Ordered-map R f (x ∷ xs) order = (each_map (R (f x)) f xs order.0, Ordered-map R f xs order.1)

pub Ordered-flat_map : {X Y : Type 0} (R : Y → Y → Type 0) (f : X → List Y) (xs : List X) → AllByRecursion (λ x. Ordered R (f x)) xs
    → Ordered (λ x z. AllByRecursion (λ y. AllByRecursion (R y) (f z)) (f x)) xs → Ordered R (flat_map f xs)
Ordered-flat_map R f [] each order = tt
Ordered-flat_map R f (x ∷ xs) each order =
    let across : AllByRecursion (λ y. AllByRecursion (R y) (flat_map f xs)) (f x) =
    each_from (λ y. AllByRecursion (R y) (flat_map f xs)) (f x) (λ y has. each_flat_map (R y) f xs
    (each_weaker (λ z. AllByRecursion (λ y. AllByRecursion (R y) (f z)) (f x)) (λ z. AllByRecursion (R y) (f z)) (λ z all. each_has (λ y. AllByRecursion (R y) (f z)) (f x) y all has) xs order.0)) in
    Ordered-append R (f x) (flat_map f xs) each.0 (Ordered-flat_map R f xs each.1 order.1) across

pub Ordered-filter : {X : Type 0} (R : X → X → Type 0) (test : X → Bool) (xs : List X) → Ordered R xs → Ordered R (filter test xs)
Ordered-filter R test [] order = tt
Ordered-filter R test (x ∷ xs) order =
    go (test x) (each_filter test (R x) xs order.0) (Ordered-filter R test xs order.1) where
      go : (b : Bool) → AllByRecursion (R x) (filter test xs) → Ordered R (filter test xs) → Ordered R (cond b (x ∷ filter test xs) (filter test xs))
      go true before behind = (before, behind)
      go false before behind = behind

-- of two elements one stands before the other, or they are the same
pub ordered_either : {X : Type 0} (R : X → X → Type 0) (xs : List X) (x y : X) → Ordered R xs → Has x xs → Has y xs → R x y ⊎ R y x ⊎ (x ≡ y)
ordered_either R [] x y order here there = absurd here
ordered_either {X = X} R (z ∷ zs) x y order here there = elim here [
  | inl is ↦ elim there [
    | inl same ↦ inr (inr (is ∙ sym same))
    | inr behind ↦ inl (subst (λ (w : X). R w y) (sym is) (each_has (R z) zs y order.0 behind))
  ]
  | inr behind ↦ elim there [
    | inl same ↦ inr (inl (subst (λ (w : X). R w x) (sym same) (each_has (R z) zs x order.0 behind)))
    | inr more ↦ ordered_either R zs x y order.1 behind more
  ]
]

-- ---- lists in strict order

module _ {X : Type 0} (R : X → X → Type 0) (apart : (x y : X) → R x y → R y x → ⊥) where
  same_head : (x y : X) (xs ys : List X) → AllByRecursion (R x) xs → AllByRecursion (R y) ys → Has x (y ∷ ys) → Has y (x ∷ xs) → x ≡ y
  same_head x y xs ys first second here there = elim here [
    | inl is ↦ is
    | inr behind ↦ elim there [
      | inl is ↦ sym is
      | inr back ↦ absurd (apart x y (each_has (R x) xs y first back) (each_has (R y) ys x second behind))
    ]
  ]

  behind_head : (x y z : X) (xs ys : List X) → AllByRecursion (R x) xs → x ≡ y → Has z xs → Has z (y ∷ ys) → Has z ys
  behind_head x y z xs ys first is here there = elim there [
    | inl same ↦
        let before : R x x = subst (R x) (same ∙ sym is) (each_has (R x) xs z first here) in
        absurd (apart x x before before)
    | inr behind ↦ behind
  ]

  -- Of lists in strict order those with the same elements are the same.
  pub ordered_same : (xs ys : List X) → Ordered R xs → Ordered R ys → ((x : X) → Has x xs → Has x ys) → ((x : X) → Has x ys → Has x xs) → xs ≡ ys
  ordered_same [] [] first second into back = refl
  ordered_same [] (y ∷ ys) first second into back = absurd (back y (inl refl))
  ordered_same (x ∷ xs) [] first second into back = absurd (into x (inl refl))
  ordered_same (x ∷ xs) (y ∷ ys) first second into back =
      let is : x ≡ y = same_head x y xs ys first.0 second.0 (into x (inl refl)) (back y (inl refl)) in
      let rest : xs ≡ ys = ordered_same xs ys first.1 second.1
      (λ z has. behind_head x y z xs ys first.0 is has (into z (inr has)))
      (λ z has. behind_head y x z ys xs second.0 (sym is) has (back z (inr has))) in
      ap (λ (z : X). z ∷ xs) is ∙ ap (λ (zs : List X). y ∷ zs) rest
