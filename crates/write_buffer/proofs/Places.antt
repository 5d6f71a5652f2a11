-- The place of a cell's write.
use Rattle.std.proofs.Common.{◌≡◌, ◌≢◌, ℕ, zero, suc, ◌<◌, true, false, nat_eq, List, [], ◌∷◌, ◌++◌, length, get_or, take, set, slice_get, Option, Some, None, is_some, refl, sym, ap, ◌∙◌, inl, inr, arith, get_or-take}
use Rattle.std.specs.Prelude.{IfSome, MatchOption}
use Rattle.std.specs.List.{All, AllByRecursion, HoldsAt, IsDistinct}
use Rattle.std.specs.Map.{keys_of, lookup}
use Rattle.std.proofs.lemmas.Bool.Decides.{eqb_tells, nat_tests}
use Rattle.std.proofs.lemmas.Cmp.{nat_eq_equiv}
use Rattle.std.proofs.lemmas.List.{get_or_default, length-take}
use Rattle.std.proofs.lemmas.List.Elements.{All-head, All-tail}
use Rattle.std.proofs.lemmas.Map.Entries.{length-keys_of, lookup_from_place}
use Rattle.std.proofs.lemmas.Option.{slice_get-get_or, slice_get_read}
use Rattle.cell_index.proofs.Room.{key_at}
use Rattle.stm_model.specs.Heap.{put, writes_to}
use Rattle.stm_model.proofs.HeapLemmas.{writes_to-lookup}
use Rattle.write_buffer.specs.Buffer.{AreApart, with_value}
use Rattle.write_buffer.specs.Indexed.{IsPlace}

pub put_new : (writes : List (ℕ × ℕ)) (address value : ℕ) → writes_to writes address ≡ false → put writes address value ≡ writes ++ (address, value) ∷ []
put_new [] address value none = refl
put_new (write ∷ writes) address value none = elim (eqb_tells address write.0) [
  | inl same ↦ absurd (cc (rw same.0 at none))
  | inr other ↦ rw other.0 (ap (λ (rest : List (ℕ × ℕ)). write ∷ rest) (put_new writes address value (rw other.0 at none)))
]

pub lookup_none : (writes : List (ℕ × ℕ)) (address : ℕ) → All (λ write. write.0 ≢ address) writes → lookup (nat_eq address) writes ≡ None
lookup_none [] address none = refl
lookup_none (write ∷ writes) address none = elim (eqb_tells address write.0) [
  | inl same ↦ absurd (All-head (λ w. w.0 ≢ address) write writes none (sym same.1))
  | inr other ↦ rw other.0 (lookup_none writes address (All-tail (λ w. w.0 ≢ address) write writes none))
]

written_here : (writes : List (ℕ × ℕ)) (index address : ℕ) → index < length writes → HoldsAt (λ write. write.0 ≡ address) writes index → writes_to writes address ≡ true
written_here [] index address within here = absurd (omega arith)
written_here (write ∷ writes) zero address within here =
    let key : write.0 ≡ address = here write in
    let same : nat_eq address write.0 ≡ true = grind (arith, nat_tests) in
    rw same refl
written_here (write ∷ writes) (suc index) address within here = elim (eqb_tells address write.0) [
  | inl same ↦ rw same.0 refl
  | inr other ↦ rw other.0 (written_here writes index address (omega arith) here)
]

-- whether a cell is written, by the search for its place
pub written_by_place : (writes : List (ℕ × ℕ)) (address : ℕ) (place : Option ℕ) → IsPlace writes address place → writes_to writes address ≡ is_some place
written_by_place writes address None none = writes_to-lookup writes address ∙ ap is_some (lookup_none writes address none)
written_by_place writes address (Some index) here = written_here writes index address here.0 here.1

-- it is written among the first ones, where its place is there
pub written_before : (writes : List (ℕ × ℕ)) (count place address : ℕ) → IsPlace writes address (Some place) → place < count → writes_to (take count writes) address ≡ true
written_before writes count place address here before =
    let within : place < length (take count writes) = rw length-take (omega (arith, here.0)) in
    written_here (take count writes) place address within (λ d. rw get_or-take (here.1 d))

-- the place of a cell's write, by that of the cell
pub place_by_cells : (writes : List (ℕ × ℕ)) (address : ℕ) (found : Option ℕ)
    → MatchOption found (All (λ other. other ≢ address) (keys_of writes)) (λ place. (place < length (keys_of writes)) × (get_or (keys_of writes) place 0 ≡ address)) → IsPlace writes address found
place_by_cells writes address None none = λ place d within is.
    none place 0 (rw (length-keys_of writes) within) (key_at writes place ∙ ap (λ (w : ℕ × ℕ). w.0) (get_or_default writes place (0, 0) d within) ∙ is)
place_by_cells writes address (Some place) at =
    let within : place < length writes = rw (length-keys_of writes) at at.0 in
    (within, λ d. ap (λ (w : ℕ × ℕ). w.0) (get_or_default writes place d (0, 0) within) ∙ sym (key_at writes place) ∙ at.1)

other_key : (first : ℕ) (writes : List (ℕ × ℕ)) (index address former : ℕ) → AllByRecursion (λ key. nat_eq first key ≡ false) (keys_of writes)
    → slice_get writes index ≡ Some (address, former) → nat_eq address first ≡ false
other_key first [] index address former others here = absurd (cc here)
other_key first (write ∷ writes) zero address former others here =
    let key : write.0 ≡ address = cc here in
    let apart : nat_eq first address ≡ false = rw (← key) others.0 in
    grind (arith, nat_tests)
other_key first (write ∷ writes) (suc index) address former others here = other_key first writes index address former others.1 here

put_again : (writes : List (ℕ × ℕ)) (index address value former : ℕ) → AreApart writes → slice_get writes index ≡ Some (address, former)
    → put writes address value ≡ set writes index (address, value)
unfolding IsDistinct
put_again [] index address value former apart here = absurd (cc here)
put_again (write ∷ writes) zero address value former apart here =
    let key : write.0 ≡ address = cc here in
    let same : nat_eq address write.0 ≡ true = grind (arith, nat_tests) in
    rw same refl
put_again (write ∷ writes) (suc index) address value former apart here =
    let other : nat_eq address write.0 ≡ false = other_key write.0 writes index address former apart.0 here in
    rw other (ap (λ (rest : List (ℕ × ℕ)). write ∷ rest) (put_again writes index address value former apart.1 here))

here_step : (writes : List (ℕ × ℕ)) (index address : ℕ) (write : ℕ × ℕ) → slice_get writes index ≡ Some write → write.0 ≡ address → slice_get writes index ≡ Some (address, write.1)
here_step writes index address write at key = rw (← key) at

put_at : (writes : List (ℕ × ℕ)) (place address value : ℕ) → AreApart writes → IsPlace writes address (Some place) → put writes address value ≡ with_value writes place value
put_at writes place address value apart here =
    put_again writes place address value (get_or writes place (0, 0)).1 apart
    (here_step writes place address (get_or writes place (0, 0)) (slice_get-get_or writes place (0, 0) here.0) (here.1 (0, 0)))
    ∙ ap (λ a. set writes place (a, value)) (sym (here.1 (0, 0)))

-- a put of a written cell changes its value in its place
pub again_in_place : (writes : List (ℕ × ℕ)) (address : ℕ) (found : Option ℕ) → AreApart writes → IsPlace writes address found
    → IfSome found (λ place. (value : ℕ) → put writes address value ≡ with_value writes place value)
again_in_place writes address None apart none = tt
again_in_place writes address (Some place) apart here = λ value. put_at writes place address value apart here

pub found_again : (writes : List (ℕ × ℕ)) (index address value : ℕ) → AreApart writes → slice_get writes index ≡ Some (address, value)
    → Some value ≡ lookup (nat_eq address) writes
found_again writes index address value apart here = sym (lookup_from_place nat_eq_equiv writes index address value apart here)

-- what stands where a search for a cell ended
pub here_at : (writes seen : List (ℕ × ℕ)) (index address : ℕ) (write : ℕ × ℕ) → seen ≡ writes → (index < length seen) × HoldsAt (λ w. w.0 ≡ address) seen index
    → write ≡ get_or writes index write → slice_get writes index ≡ Some (address, write.1)
here_at writes seen index address write same found at =
    let within : index < length writes = rw same at found.0 in
    let key : (get_or writes index write).0 ≡ address = rw same at (found.1 write) in
    here_step writes index address write (slice_get_read writes (length writes) index write refl within at) (rw (← at) at key)
