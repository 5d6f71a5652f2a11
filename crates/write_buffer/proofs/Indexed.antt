-- Writes of distinct cells with the index of their cells, through each change.
use Rattle.std.proofs.Common.{◌∙◌, ◌≡◌, ℕ, zero, suc, ◌<◌, false, List, [], ◌∷◌, ◌++◌, length, take, refl, ap, arith}
use Rattle.std.specs.List.{AllByRecursion, IsDistinct}
use Rattle.std.specs.Map.{keys_of}
use Rattle.std.proofs.lemmas.Map.Entries.{length-keys_of}
use Rattle.cell_index.specs.Cells.{Cells}
use Rattle.cell_index.proofs.Beside.{index_of_few_more, index_of_fewer, index_of_none}
use Rattle.cell_index.proofs.Room.{keys_push, keys_take}
use Rattle.stm_model.specs.Heap.{writes_to}
use Rattle.stm_model.proofs.HeapLemmas.{IsDistinct-put}
use Rattle.write_buffer.specs.Indexed.{IsIndexed}
use Rattle.write_buffer.specs.Buffer.{AreApart, restored, with_value}
use Rattle.write_buffer.proofs.Places.{put_new}

-- Another value of a write changes no cell.
pub keys_with_value : (writes : List (ℕ × ℕ)) (index value : ℕ) → keys_of (with_value writes index value) ≡ keys_of writes
keys_with_value [] index value = refl
keys_with_value (write ∷ writes) zero value = refl
keys_with_value (write ∷ writes) (suc index) value = ap (λ (keys : List ℕ). write.0 ∷ keys) (keys_with_value writes index value)

pub keys_restored : (writes replaced : List (ℕ × ℕ)) → keys_of (restored writes replaced) ≡ keys_of writes
unfolding restored
keys_restored writes [] = refl
keys_restored writes (former ∷ replaced) = keys_with_value (restored writes replaced) former.0 former.1 ∙ keys_restored writes replaced

AreApart_with_value : (writes : List (ℕ × ℕ)) (index value : ℕ) → AreApart writes → AreApart (with_value writes index value)
AreApart_with_value writes index value apart = rw (keys_with_value writes index value) apart

others_take : (P : ℕ → Type 0) (n : ℕ) (writes : List (ℕ × ℕ)) → AllByRecursion P (keys_of writes) → AllByRecursion P (keys_of (take n writes))
others_take P zero writes all = tt
others_take P (suc n) [] all = tt
others_take P (suc n) (write ∷ writes) all = (all.0, others_take P n writes all.1)

AreApart_take : (n : ℕ) (writes : List (ℕ × ℕ)) → AreApart writes → AreApart (take n writes)
unfolding IsDistinct
AreApart_take zero writes apart = tt
AreApart_take (suc n) [] apart = tt
AreApart_take (suc n) (write ∷ writes) apart = (others_take _ n writes apart.0, AreApart_take n writes apart.1)

AreApart_empty : (writes : List (ℕ × ℕ)) → writes ≡ [] → AreApart writes
unfolding IsDistinct
AreApart_empty writes none = rw none tt

pub IsIndexed_empty : (index : Cells) (writes : List (ℕ × ℕ)) → index.addresses ≡ [] → writes ≡ [] → IsIndexed index writes
IsIndexed_empty index writes empty none = record {
  apart = AreApart_empty writes none;
  cells = index_of_none index _ empty (rw none (omega arith));
}

pub IsIndexed_with_value : (index : Cells) (writes : List (ℕ × ℕ)) (place value : ℕ) → IsIndexed index writes → IsIndexed index (with_value writes place value)
IsIndexed_with_value index writes place value is = record {
  apart = AreApart_with_value writes place value is.apart;
  cells = rw (keys_with_value writes place value) is.cells;
}

pub IsIndexed_take : (index other : Cells) (writes : List (ℕ × ℕ)) (count : ℕ) → other.addresses ≡ take count index.addresses → other.room ≡ index.room
    → IsIndexed index writes → IsIndexed other (take count writes)
IsIndexed_take index other writes count kept room is = record {
  apart = AreApart_take count writes is.apart;
  cells = rw (keys_take count writes) (index_of_fewer index other (keys_of writes) count kept room is.cells);
}

-- ---- a cell more

pub AreApart_push : (writes : List (ℕ × ℕ)) (address value : ℕ) → AreApart writes → writes_to writes address ≡ false → AreApart (writes ++ (address, value) ∷ [])
AreApart_push writes address value apart none = rw (← put_new writes address value none) (IsDistinct-put writes address value apart)

-- while there are few
pub IsIndexed_push : (index : Cells) (writes : List (ℕ × ℕ)) (address value : ℕ) → IsIndexed index writes → writes_to writes address ≡ false → length writes < 32
    → IsIndexed index (writes ++ (address, value) ∷ [])
IsIndexed_push index writes address value is none few = record {
  apart = AreApart_push writes address value is.apart none;
  cells = rw (keys_push writes address value) (index_of_few_more index (keys_of writes) address is.cells (rw (length-keys_of writes) few));
}
