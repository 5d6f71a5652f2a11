-- What writes make of a heap, and what putting a write into a list of them does.
use Rattle.std.proofs.Common.{◌≡◌, ℕ, ◌^◌, ◌<◌, Bool, false, nat_eq, ◌||◌, cond, List, [], ◌∷◌, length, get_or, set, Option, Some, is_some, refl, sym, ap, ◌∙◌, ◌≢◌, inl, inr, arith, length-set}
use Rattle.std.specs.List.{AllByRecursion, IsDistinct}
use Rattle.std.specs.Map.{keys_of, lookup, values_of}
use Rattle.std.proofs.lemmas.Bool.Decides.{eqb_tells, nat_tests}
use Rattle.std.proofs.lemmas.Grind.{common_steps}
use Rattle.std.proofs.lemmas.List.{get_or-set_other, get_or-set_same, set-set, set_comm}
use Rattle.std.proofs.lemmas.List.Elements.{All-cons, All-head, All-nil, All-set, All-tail}
use Rattle.stm_model.specs.Heap.{AreWords, over, put, writes_to}

-- ---- the heap

pub length-over : (heap : List ℕ) (writes : List (ℕ × ℕ)) → length (over heap writes) ≡ length heap
length-over heap [] = refl
length-over heap (write ∷ writes) = length-set (over heap writes) write.0 write.1 ∙ length-over heap writes

other_step : (heap : List ℕ) (place address value there : ℕ) (rest : Bool) → (nat_eq address place || rest) ≡ false
    → (rest ≡ false → get_or heap address 0 ≡ there) → get_or (set heap place value) address 0 ≡ there
other_step heap place address value there rest none stays = grind (arith, common_steps, nat_tests, get_or-set_other {A = ℕ})

-- a cell that none of the writes goes to
pub over_other : (heap : List ℕ) (writes : List (ℕ × ℕ)) (address : ℕ) → writes_to writes address ≡ false
    → get_or (over heap writes) address 0 ≡ get_or heap address 0
over_other heap [] address none = refl
over_other heap (write ∷ writes) address none =
    other_step (over heap writes) write.0 address write.1 _ (writes_to writes address) none (over_other heap writes address)

found_step : (heap : List ℕ) (place written address value : ℕ) (rest : Option ℕ) → address < length heap
    → cond (nat_eq address place) (Some written) rest ≡ Some value → (rest ≡ Some value → get_or heap address 0 ≡ value)
    → get_or (set heap place written) address 0 ≡ value
found_step heap place written address value rest within found before = grind (arith, common_steps, get_or-set_same {A = ℕ}, get_or-set_other {A = ℕ})

-- a cell for which the writes have a value
pub over_found : (heap : List ℕ) (writes : List (ℕ × ℕ)) (address value : ℕ) → address < length heap → lookup (nat_eq address) writes ≡ Some value
    → get_or (over heap writes) address 0 ≡ value
over_found heap [] address value within found = cc
over_found heap (write ∷ writes) address value within found =
    found_step (over heap writes) write.0 write.1 address value (lookup (nat_eq address) writes) (omega (arith, length-over heap writes)) found
    (over_found heap writes address value within)

pub writes_to-lookup : (writes : List (ℕ × ℕ)) (address : ℕ) → writes_to writes address ≡ is_some (lookup (nat_eq address) writes)
writes_to-lookup [] address = refl
writes_to-lookup (write ∷ writes) address = elim (eqb_tells address write.0) [
  | inl same ↦ rw same.0 refl
  | inr other ↦ rw other.0 (writes_to-lookup writes address)
]

pub AreWords-over : (heap : List ℕ) (writes : List (ℕ × ℕ)) → AreWords heap → AreWords (values_of writes) → AreWords (over heap writes)
AreWords-over heap [] words written = words
AreWords-over heap (write ∷ writes) words written =
    All-set (λ number. number < 2 ^ 64) (over heap writes) write.0 write.1
    (All-head (λ number. number < 2 ^ 64) write.1 (values_of writes) written)
    (AreWords-over heap writes words (All-tail (λ number. number < 2 ^ 64) write.1 (values_of writes) written))

-- ---- one write more

pub over-put : (heap : List ℕ) (writes : List (ℕ × ℕ)) (address value : ℕ) → over heap (put writes address value) ≡ set (over heap writes) address value
over-put heap [] address value = refl
over-put heap (write ∷ writes) address value = elim (eqb_tells address write.0) [
  | inl same ↦ rw same.0 (rw (← same.1) (sym (set-set (over heap writes) address write.1 value)))
  | inr other ↦ rw other.0 (ap (λ h. set h write.0 write.1) (over-put heap writes address value)
      ∙ set_comm (over heap writes) address write.0 value write.1 other.1)
]

apart_back : (key other : ℕ) → key ≢ other → nat_eq other key ≡ false
apart_back key other apart = grind (arith, nat_tests)

-- a key that is none of them is none of them with another one
apart-put : (key : ℕ) (writes : List (ℕ × ℕ)) (address value : ℕ) → nat_eq key address ≡ false
    → AllByRecursion (λ other. nat_eq key other ≡ false) (keys_of writes)
    → AllByRecursion (λ other. nat_eq key other ≡ false) (keys_of (put writes address value))
apart-put key [] address value apart others = (apart, tt)
apart-put key (write ∷ writes) address value apart others = elim (eqb_tells address write.0) [
  | inl same ↦ rw same.0 (apart, others.1)
  | inr other ↦ rw other.0 (others.0, apart-put key writes address value apart others.1)
]

pub IsDistinct-put : (writes : List (ℕ × ℕ)) (address value : ℕ) → IsDistinct nat_eq (keys_of writes) → IsDistinct nat_eq (keys_of (put writes address value))
unfolding IsDistinct
IsDistinct-put [] address value apart = (tt, tt)
IsDistinct-put (write ∷ writes) address value apart = elim (eqb_tells address write.0) [
  | inl same ↦ rw same.0 (rw same.1 apart)
  | inr other ↦ rw other.0 (apart-put write.0 writes address value (apart_back address write.0 other.1) apart.0, IsDistinct-put writes address value apart.1)
]

pub AreWords-put : (writes : List (ℕ × ℕ)) (address value : ℕ) → AreWords (values_of writes) → value < 2 ^ 64 → AreWords (values_of (put writes address value))
AreWords-put [] address value words fits = All-cons (λ number. number < 2 ^ 64) value [] fits (All-nil (λ number. number < 2 ^ 64))
AreWords-put (write ∷ writes) address value words fits =
    let first : write.1 < 2 ^ 64 = All-head (λ number. number < 2 ^ 64) write.1 (values_of writes) words in
    let rest : AreWords (values_of writes) = All-tail (λ number. number < 2 ^ 64) write.1 (values_of writes) words in
    elim (eqb_tells address write.0) [
      | inl same ↦ rw same.0 (All-cons (λ number. number < 2 ^ 64) value (values_of writes) fits rest)
      | inr other ↦ rw other.0 (All-cons (λ number. number < 2 ^ 64) write.1 (values_of (put writes address value)) first (AreWords-put writes address value rest fits))
    ]
