-- The pairs of a leaf, in the order in which they stand in it. A pair that is put takes the place of the one with its key, or the next place, as a write does in a list of them (`put` of stm_model).
use Rattle.std.specs.Prelude.{◌≡◌, ℕ, nat_eq, if◌then◌else◌, List, [], ◌∷◌, Option}
use Rattle.std.specs.List.{IsDistinct}
use Rattle.std.specs.Map.{keys_of}
use Rattle.ledger_model.specs.Maps.{value_at}

-- the last of these pairs
abbrev pub last_of : ℕ × ℕ → List (ℕ × ℕ) → ℕ × ℕ
last_of pair [] = pair
last_of pair (next ∷ pairs) = last_of next pairs

-- all of them but the last
abbrev pub all_but_last : ℕ × ℕ → List (ℕ × ℕ) → List (ℕ × ℕ)
all_but_last pair [] = []
all_but_last pair (next ∷ pairs) = pair ∷ all_but_last next pairs

-- the last one in front of the others
abbrev pub last_first : List (ℕ × ℕ) → List (ℕ × ℕ)
last_first [] = []
last_first (pair ∷ pairs) = last_of pair pairs ∷ all_but_last pair pairs

-- the pairs without this key: the last pair takes its place
abbrev pub without : (key : ℕ) → List (ℕ × ℕ) → List (ℕ × ℕ)
without key [] = []
without key (pair ∷ pairs) = if nat_eq key pair.0 then last_first pairs else pair ∷ without key pairs

-- The key has this value afterwards, or none, and each other key what it had. Each key stands once.
pub record SetsKey (key : ℕ) (value : Option ℕ) (before after : List (ℕ × ℕ)) : Type 0 where
  pub values : (other : ℕ) → value_at other after ≡ if nat_eq other key then value else value_at other before
  pub distinct : IsDistinct nat_eq (keys_of after)
