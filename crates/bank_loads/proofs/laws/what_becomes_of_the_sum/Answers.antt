use Rattle.std.proofs.Common.{◌≡◌, ℕ, ◌+◌, ◌-◌, ◌<◌, ◌≤◌, ◌^◌, ◌&&◌, not, Bool, true, false, cond, List, length, get_or, set, Some, None, nat_eq, nat_lt, refl, arith}
use Rattle.std.specs.Prelude.{◌≢◌, nat_le}
use Rattle.std.specs.List.{sum}
use Rattle.std.proofs.lemmas.Bool.Decides.{nat_tests}
use Rattle.std.proofs.lemmas.List.Sums.{sum_by-set}
use Rattle.std.proofs.lemmas.Grind.{common_steps}
use Rattle.bank_loads.specs.Heaps.{with_cells}
use Rattle.bank_loads.proofs.laws.what_becomes_of_the_sum.Goals as goal

-- what one cell loses another one gains
sum-moved : (from to amount : ℕ) (heap : List ℕ) → from ≢ to → from < length heap → to < length heap → amount ≤ get_or heap from 0
    → sum (set (set heap from (get_or heap from 0 - amount)) to (get_or heap to 0 + amount)) ≡ sum heap
sum-moved from to amount heap apart one other enough =
    let less : List ℕ = set heap from (get_or heap from 0 - amount) in
    let within : to < length less = grind (arith, common_steps) in
    let same : get_or less to 0 ≡ get_or heap to 0 = grind (arith, common_steps) in
    let first = sum_by-set (λ n. n) heap from (get_or heap from 0 - amount) 0 one in
    let second = sum_by-set (λ n. n) less to (get_or heap to 0 + amount) 0 within in
    omega (arith, same, first, second)

pub returns-clause-transferred : goal.returns-clause-transferred
returns-clause-transferred c t heap one other =
    go (not (nat_eq t.from.0 t.to.0) && nat_le t.amount there && nat_lt (here + t.amount) (2 ^ 64)) refl
  where
    there : ℕ
    there = get_or heap t.from.0 0

    here : ℕ
    here = get_or heap t.to.0 0

    go : (b : Bool) → (not (nat_eq t.from.0 t.to.0) && nat_le t.amount there && nat_lt (here + t.amount) (2 ^ 64)) ≡ b
        → sum (with_cells t heap (cond b (Some (there - t.amount, here + t.amount)) None)) ≡ sum heap
    go true is = sum-moved t.from.0 t.to.0 t.amount heap (grind (arith, nat_tests)) one other (grind (arith, nat_tests))
    go false is = refl
