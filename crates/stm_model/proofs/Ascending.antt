-- Pairs stay in order where a pair of a greater key is put at the end.
use Rattle.std.proofs.Common.{ℕ, List, [], ◌∷◌, ◌++◌}
use Rattle.stm_model.specs.Pairs.{EndsBelow, KeysAscend}

pub KeysAscend-push : (pairs : List (ℕ × ℕ)) (last : ℕ × ℕ) → KeysAscend pairs → EndsBelow pairs last.0 → KeysAscend (pairs ++ last ∷ [])
KeysAscend-push [] last ascend below = tt
KeysAscend-push (p ∷ []) last ascend below = (below, tt)
KeysAscend-push (p ∷ q ∷ pairs) last ascend below = (ascend.0, KeysAscend-push (q ∷ pairs) last ascend.1 below)
