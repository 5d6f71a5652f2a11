-- The before-commit bodies that have their turn, one after another.
use Rattle.std.proofs.Common.{◌≡◌, ℕ, zero, suc, ◌+◌, ◌≤◌, List, [], ◌∷◌, drop, length, Some, None, ap, ◌∙◌, arith}
use Rattle.std.specs.List.{slice_get}
use Rattle.std.proofs.lemmas.List.{drop_more}
use Rattle.std.proofs.lemmas.Option.{get_or_from_slice_get, slice_get_within}

pub at_body : (laters : List ℕ) (turn token : ℕ) → slice_get laters turn ≡ Some token → drop turn laters ≡ token ∷ drop (turn + 1) laters
at_body laters turn token here =
    drop_more laters turn 0 (slice_get_within laters turn token here) ∙ ap (λ first. first ∷ drop (turn + 1) laters) (get_or_from_slice_get laters turn token 0 here)

pub behind_last : (laters : List ℕ) (turn : ℕ) → slice_get laters turn ≡ None → length laters ≤ turn
behind_last [] turn none = omega arith
behind_last (body ∷ laters) zero none = absurd (cc none)
behind_last (body ∷ laters) (suc turn) none = let rest = behind_last laters turn none in omega (arith, rest)
