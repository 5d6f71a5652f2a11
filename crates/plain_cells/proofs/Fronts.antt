-- A list that is copied from the front.
use Rattle.std.proofs.Common.{◌≡◌, ℕ, ◌+◌, ◌<◌, ◌≤◌, List, [], ◌∷◌, ◌++◌, length, take, get_or, arith}
use Rattle.std.proofs.lemmas.Grind.{common_steps}

pub front_more : (list front longer : List ℕ) (i x : ℕ) → i < length list → front ≡ take i list → x ≡ get_or list i 0 → longer ≡ front ++ x ∷ [] → longer ≡ take (i + 1) list
front_more list front longer i x within is here more = grind (arith, common_steps)

pub front_whole : (list front : List ℕ) (i : ℕ) → length list ≤ i → front ≡ take i list → front ≡ list
front_whole list front i past is = grind (arith, common_steps)
