-- The addresses of an array's cells, from one of them on.
use Rattle.std.proofs.Common.{◌≡◌, ℕ, suc, ◌+◌, ◌-◌, ◌<◌, ◌∷◌, ap, ◌∙◌, arith}
use Rattle.std.specs.List.{range_with_len}

pub addresses-next : (first next len : ℕ) → next < len
    → range_with_len (first + next) (len - next) ≡ (first + next) ∷ range_with_len (first + (next + 1)) (len - (next + 1))
addresses-next first next len more =
    let left : len - next ≡ suc (len - (next + 1)) = omega arith in
    let after : first + next + 1 ≡ first + (next + 1) = omega arith in
    ap (range_with_len (first + next)) left ∙ ap (λ address. (first + next) ∷ range_with_len address (len - (next + 1))) after
