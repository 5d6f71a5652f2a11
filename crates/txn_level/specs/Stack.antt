-- Private: how the open levels stand in their array.
use Rattle.std.specs.Prelude.{◌≡◌, ℕ, ◌≤◌, List, length}
use Rattle.stm_model.specs.Refusing.{deepest}
use Rattle.stm_model.specs.declared.marks.Level.{Level}

-- The array has room for the deepest level, and no more are open.
pub record IsStack (places : List Level) (depth : ℕ) : Type 0 where
  pub room : length places ≡ deepest
  pub within : depth ≤ deepest
