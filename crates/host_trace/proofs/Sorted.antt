-- Sorted rows are in order, where of each worker no two have one number.
use Rattle.std.proofs.Common.{◌≡◌, ◌⊎◌, inl, inr, ℕ, zero, suc, ◌+◌, ◌<◌, ◌≤◌, Bool, true, false, ◌&&◌, if◌then◌else◌, cond, nat_eq, nat_lt, IsTrue, List, [], ◌∷◌, map, get_or, sum_by, refl, ap, subst, ◌∙◌, arith}
use Rattle.std.specs.List.{AllByRecursion, range_with_len}
use Rattle.std.specs.List.Sorted.{IsPermutation, IsSortedBy}
use Rattle.std.proofs.lemmas.Bool.{cases_eq}
use Rattle.std.proofs.lemmas.Bool.Decides.{nat_tests}
use Rattle.std.proofs.lemmas.List.Elements.{All-from_recursion}
use Rattle.std.proofs.lemmas.List.Kept.{AllPairs-cons}
use Rattle.std.proofs.lemmas.List.Recursion.{is_sum_by}
use Rattle.std.proofs.lemmas.List.Sorted.{sum_by-IsPermutation}
use Rattle.ledger_model.specs.declared.listing.Row.{Row}
use Rattle.ledger_model.specs.Order.{kind_rank, less_or_tied, stands_before}
use Rattle.ledger_model.specs.Replays.{InOrder, rows_of, settled_by}
use Rattle.ledger_model.proofs.Lists.{each_weaker}
use Rattle.host_trace.specs.Tracings.{AreNumbered}

-- ---- rows of one name

abbrev one_if : Bool → ℕ
one_if b = if b then 1 else 0

-- how many of the numbers are this one
many : ℕ → List ℕ → ℕ
many m [] = 0
many m (n ∷ ns) = one_if (nat_eq n m) + many m ns

-- it has this worker and this number
abbrev one : ℕ → ℕ → Row → ℕ
one p m row = one_if (nat_eq row.worker p && nat_eq row.number m)

-- how many rows have
abbrev named : ℕ → ℕ → List Row → ℕ
named p m [] = 0
named p m (row ∷ rows) = one p m row + named p m rows

many_below : (m a n : ℕ) → m < a → many m (range_with_len a n) ≡ 0
unfolding many
many_below m a zero less = refl
many_below m a (suc n) less =
    let rest = many_below m (a + 1) n (omega arith) in
    let other : nat_eq a m ≡ false = grind (arith, nat_tests) in
    ap (λ (b : Bool). one_if b + many m (range_with_len (a + 1) n)) other ∙ omega (arith, rest)

many_next : (m a n : ℕ) (b : Bool) → nat_eq a m ≡ b → many m (range_with_len (a + 1) n) ≤ 1 → one_if b + many m (range_with_len (a + 1) n) ≤ 1
many_next m a n true same rest = let none = many_below m (a + 1) n (let is : a ≡ m = grind (arith, nat_tests) in omega (arith, is)) in omega (arith, none)
many_next m a n false same rest = omega (arith, rest)

many_most : (m a n : ℕ) → many m (range_with_len a n) ≤ 1
unfolding many
many_most m a zero = omega arith
many_most m a (suc n) = many_next m a n (nat_eq a m) refl (many_most m (a + 1) n)

named_many : (p m : ℕ) (rows : List Row) → named p m rows ≡ many m (map (λ row. row.number) (rows_of p rows))
unfolding many
named_many p m [] = refl
named_many p m (row ∷ rows) = go (nat_eq row.worker p) (named_many p m rows)
  where
    go : (b : Bool) → named p m rows ≡ many m (map (λ row. row.number) (rows_of p rows))
        → one_if (b && nat_eq row.number m) + named p m rows ≡ many m (map (λ row. row.number) (cond b (row ∷ rows_of p rows) (rows_of p rows)))
    go true rest = ap (λ (k : ℕ). one_if (nat_eq row.number m) + k) rest
    go false rest = omega (arith, rest)

named_sum : (p m : ℕ) (rows : List Row) → named p m rows ≡ sum_by (one p m) rows
named_sum p m rows = is_sum_by (named p m) (one p m) refl (λ row rows. refl) rows

-- No two rows have one name.
abbrev pub AreApart : List Row → Type 0
AreApart rows = (p m : ℕ) → named p m rows ≤ 1

pub numbered_apart : (rows : List Row) → AreNumbered rows → AreApart rows
numbered_apart rows numbered p m = rw (named_many p m rows, numbered p) (many_most m 1 (settled_by rows p))

pub apart_moved : (rows listed : List Row) → IsPermutation rows listed → AreApart rows → AreApart listed
apart_moved rows listed moved apart p m =
    let same = sum_by-IsPermutation (one p m) rows listed moved in
    let before = named_sum p m rows in
    let after = named_sum p m listed in
    let most = apart p m in
    omega (arith, same, before, after, most)

-- ---- the order

abbrev Before : Row → Row → Type 0
Before a b = IsTrue (stands_before a b)

tied_along : (a b c : ℕ) (f g h : Bool) → (IsTrue f → IsTrue g → IsTrue h) → IsTrue (less_or_tied a b f) → IsTrue (less_or_tied b c g) → IsTrue (less_or_tied a c h)
tied_along a b c true true h along first second = let last : h ≡ true = along refl refl in grind (arith, nat_tests)
tied_along a b c true false h along first second = grind (arith, nat_tests)
tied_along a b c false g h along first second = grind (arith, nat_tests)

before_along : (a b c : Row) → Before a b → Before b c → Before a c
before_along a b c =
    tied_along a.position b.position c.position _ _ _
    (tied_along (kind_rank a.writer) (kind_rank b.writer) (kind_rank c.writer) _ _ _
    (tied_along a.worker b.worker c.worker _ _ _ (λ first second. grind (arith, nat_tests))))

tied_less : (a b : ℕ) (f : Bool) → a < b → IsTrue (less_or_tied a b f)
tied_less a b f less = grind (arith, nat_tests)

tied_same : (a b : ℕ) (f : Bool) → a ≡ b → IsTrue f → IsTrue (less_or_tied a b f)
tied_same a b f same holds = grind (arith, nat_tests)

tied_not : (a b : ℕ) (g : Bool) → less_or_tied b a g ≡ false → a ≤ b
tied_not a b g not_less = grind (arith, nat_tests)

tied_next : (a b : ℕ) (g : Bool) → less_or_tied b a g ≡ false → a ≡ b → g ≡ false
tied_next a b true not_less same = absurd (let less : less_or_tied b a true ≡ true = grind (arith, nat_tests) in cc)
tied_next a b false not_less same = refl

-- It is less, or it ties and what decides then holds, or else this.
tied_either : (P : Type 0) (a b : ℕ) (f g : Bool) → (a ≡ b → g ≡ false → IsTrue f ⊎ P) → less_or_tied b a g ≡ false → IsTrue (less_or_tied a b f) ⊎ P
tied_either P a b f g next not_less = elim (cases_eq a b) [
  | inl same ↦ elim (next same (tied_next a b g not_less same)) [ inl holds ↦ inl (tied_same a b f same holds) | inr this ↦ inr this ]
  | inr other ↦ inl (let most = tied_not a b g not_less in tied_less a b f (omega arith))
]

-- They have one name.
abbrev HaveOneName : Row → Row → Type 0
HaveOneName a b = (a.worker ≡ b.worker) × (a.number ≡ b.number)

before_either : (a b : Row) → stands_before b a ≡ false → Before a b ⊎ HaveOneName a b
before_either a b =
    tied_either (HaveOneName a b) a.position b.position _ _ (λ position.
    tied_either (HaveOneName a b) (kind_rank a.writer) (kind_rank b.writer) _ _ (λ kind.
    tied_either (HaveOneName a b) a.worker b.worker _ _ (λ worker not_less. number worker not_less)))
  where
    number : a.worker ≡ b.worker → nat_lt b.number a.number ≡ false → IsTrue (nat_lt a.number b.number) ⊎ HaveOneName a b
    number worker not_less = elim (cases_eq a.number b.number) [
      | inl same ↦ inr (worker, same)
      | inr other ↦ inl (grind (arith, nat_tests))
    ]

-- ---- sorted rows

one_own : (row other : Row) → HaveOneName row other → one row.worker row.number other ≡ 1
one_own row other same =
    let worker : nat_eq other.worker row.worker ≡ true = let is = same.0 in grind (arith, nat_tests) in
    let number : nat_eq other.number row.number ≡ true = let is = same.1 in grind (arith, nat_tests) in
    ap (λ (b : Bool). one_if (b && nat_eq other.number row.number)) worker ∙ ap (λ (b : Bool). one_if b) number

sorted_rest : (row : Row) (rows : List Row) → IsSortedBy stands_before (row ∷ rows) → IsSortedBy stands_before rows
sorted_rest row rows sorted k d from less =
    let behind : suc k + 1 ≡ suc (k + 1) = omega arith in
    subst (λ (n : ℕ). stands_before (get_or (row ∷ rows) n d) (get_or rows k d) ≡ false) behind (sorted (suc k) d (omega arith) (omega arith))

apart_rest : (row : Row) (rows : List Row) → AreApart (row ∷ rows) → AreApart rows
apart_rest row rows apart p m = let most = apart p m in omega (arith, most)

first_before : (a b : Row) (rows : List Row) → IsSortedBy stands_before (a ∷ b ∷ rows) → AreApart (a ∷ b ∷ rows) → Before a b
first_before a b rows sorted apart = elim (before_either a b (sorted 0 a (omega arith) (omega arith))) [
  | inl before ↦ before
  | inr same ↦ absurd (
      let first = one_own a a (refl, refl) in
      let second = one_own a b same in
      let most = apart a.worker a.number in
      omega (arith, first, second, most)
      )
]

-- The first stands before all others.
first_of_all : (a : Row) (rows : List Row) → IsSortedBy stands_before (a ∷ rows) → AreApart (a ∷ rows) → AllByRecursion (Before a) rows
first_of_all a [] sorted apart = tt
first_of_all a (b ∷ rows) sorted apart =
    let before = first_before a b rows sorted apart in
    (before, each_weaker (Before b) (Before a) (λ row behind. before_along a b row before behind) rows (first_of_all b rows (sorted_rest a (b ∷ rows) sorted) (apart_rest a (b ∷ rows) apart)))

pub sorted_in_order : (rows : List Row) → IsSortedBy stands_before rows → AreApart rows → InOrder rows
sorted_in_order [] sorted apart = λ i j d less within. absurd (omega (arith, within))
sorted_in_order (row ∷ rows) sorted apart =
    AllPairs-cons Before row rows (All-from_recursion (Before row) rows (first_of_all row rows sorted apart)) (sorted_in_order rows (sorted_rest row rows sorted) (apart_rest row rows apart))
