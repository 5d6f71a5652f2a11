-- A write put in the place of the first one of its cell.
use Rattle.std.proofs.Common.{◌≡◌, ℕ, ◌+◌, ◌<◌, List, ◌∷◌, ◌++◌, length, take, drop, get_or, set, arith, drop-cons}
use Rattle.std.proofs.lemmas.Bool.Decides.{nat_tests}
use Rattle.std.proofs.lemmas.Grind.{common_steps}
use Rattle.std.proofs.lemmas.List.{take-append-drop, take-set, drop-set}
use Rattle.stm_model.specs.Heap.{put}

put-head : (write : ℕ × ℕ) (rest : List (ℕ × ℕ)) (address value : ℕ) → address ≡ write.0 → put (write ∷ rest) address value ≡ (address, value) ∷ rest
put-head write rest address value same = grind (arith, common_steps, nat_tests)

pub put-here : (writes : List (ℕ × ℕ)) (i address value : ℕ) (write : ℕ × ℕ) → i < length writes → write ≡ get_or writes i write → address ≡ write.0
    → put writes address value ≡ take i writes ++ put (drop i writes) address value → set writes i (address, value) ≡ put writes address value
put-here writes i address value write within at same so_far =
    let here : drop i writes ≡ write ∷ drop (i + 1) writes = grind (arith, common_steps, drop-cons writes i write) in
    let new : put (drop i writes) address value ≡ (address, value) ∷ drop (i + 1) writes = rw here (put-head write (drop (i + 1) writes) address value same) in
    let whole = take-append-drop i (set writes i (address, value)) in
    cc (whole, take-set writes i (address, value), drop-set writes i (address, value) within, new, so_far)
