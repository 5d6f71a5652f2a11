-- Values restored, and the writes that a mark leaves of them.
use Rattle.std.proofs.Common.{◌≡◌, ℕ, zero, suc, ◌≤◌, List, [], ◌∷◌, ◌++◌, length, get_or, take, drop, refl, ap, ◌∙◌, arith, length-set}
use Rattle.std.proofs.lemmas.List.{set_past, take-append-drop}
use Rattle.write_buffer.specs.Buffer.{restored, with_value}

pub with_value_past : (writes : List (ℕ × ℕ)) (index value : ℕ) → length writes ≤ index → with_value writes index value ≡ writes
with_value_past writes index value past = set_past writes index _ past

pub length_with_value : (writes : List (ℕ × ℕ)) (index value : ℕ) → length (with_value writes index value) ≡ length writes
length_with_value writes index value = length-set writes index _

pub take_with_value : (n : ℕ) (writes : List (ℕ × ℕ)) (index value : ℕ) → take n (with_value writes index value) ≡ with_value (take n writes) index value
take_with_value zero writes index value = refl
take_with_value (suc n) [] index value = refl
take_with_value (suc n) (write ∷ writes) zero value = refl
take_with_value (suc n) (write ∷ writes) (suc index) value = ap (λ (rest : List (ℕ × ℕ)). write ∷ rest) (take_with_value n writes index value)

-- a value that was replaced comes back
pub with_value_former : (writes : List (ℕ × ℕ)) (index value former : ℕ) → former ≡ (get_or writes index (0, 0)).1 → with_value (with_value writes index value) index former ≡ writes
with_value_former [] index value former is = refl
with_value_former (write ∷ writes) zero value former is = rw is refl
with_value_former (write ∷ writes) (suc index) value former is =
    ap (λ (rest : List (ℕ × ℕ)). write ∷ rest) (with_value_former writes index value former is)

pub take_restored : (n : ℕ) (writes replaced : List (ℕ × ℕ)) → take n (restored writes replaced) ≡ restored (take n writes) replaced
unfolding restored
take_restored n writes [] = refl
take_restored n writes (former ∷ replaced) =
    take_with_value n (restored writes replaced) former.0 former.1
    ∙ ap (λ (rest : List (ℕ × ℕ)). with_value rest former.0 former.1) (take_restored n writes replaced)

pub restored_append : (writes older newer : List (ℕ × ℕ)) → restored writes (older ++ newer) ≡ restored (restored writes newer) older
unfolding restored
restored_append writes [] newer = refl
restored_append writes (former ∷ older) newer =
    ap (λ (rest : List (ℕ × ℕ)). with_value rest former.0 former.1) (restored_append writes older newer)

-- the newest value first
pub restored_newest : (writes older : List (ℕ × ℕ)) (index former : ℕ) → restored writes (older ++ (index, former) ∷ []) ≡ restored (with_value writes index former) older
unfolding restored
restored_newest writes older index former = restored_append writes older ((index, former) ∷ [])

pub restored_none : (writes replaced : List (ℕ × ℕ)) → replaced ≡ [] → restored writes replaced ≡ writes
unfolding restored
restored_none writes replaced none = rw none refl

-- ---- parts of lists

pub length_restored : (writes replaced : List (ℕ × ℕ)) → length (restored writes replaced) ≡ length writes
unfolding restored
length_restored writes [] = refl
length_restored writes (former ∷ replaced) = length-set (restored writes replaced) former.0 _ ∙ length_restored writes replaced

pub take_shorter : (fewer n : ℕ) (list : List (ℕ × ℕ)) → fewer ≤ n → take fewer (take n list) ≡ take fewer list
take_shorter zero n list within = refl
take_shorter (suc fewer) zero list within = absurd (omega arith)
take_shorter (suc fewer) (suc n) [] within = refl
take_shorter (suc fewer) (suc n) (x ∷ list) within = ap (λ (rest : List (ℕ × ℕ)). x ∷ rest) (take_shorter fewer n list (omega arith))

pub drop_front : (fewer n : ℕ) (list : List (ℕ × ℕ)) → fewer ≤ n → drop fewer (take n list) ++ drop n list ≡ drop fewer list
drop_front zero n list within = take-append-drop n list
drop_front (suc fewer) zero list within = absurd (omega arith)
drop_front (suc fewer) (suc n) [] within = refl
drop_front (suc fewer) (suc n) (x ∷ list) within = drop_front fewer n list (omega arith)
