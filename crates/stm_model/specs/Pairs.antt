-- Pairs of a key and a value in the order of their keys.
use Rattle.std.specs.Prelude.{ℕ, ◌<◌, List, [], ◌∷◌}

-- each key is less than the next one
abbrev pub KeysAscend : List (ℕ × ℕ) → Type 0
KeysAscend [] = Unit {0}
KeysAscend (p ∷ []) = Unit {0}
KeysAscend (p ∷ q ∷ pairs) = (p.0 < q.0) × KeysAscend (q ∷ pairs)

-- the last key, if there is one, is less than this key
abbrev pub EndsBelow : List (ℕ × ℕ) → ℕ → Type 0
EndsBelow [] key = Unit {0}
EndsBelow (p ∷ []) key = p.0 < key
EndsBelow (p ∷ q ∷ pairs) key = EndsBelow (q ∷ pairs) key
