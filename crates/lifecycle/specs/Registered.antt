-- What is registered, to its callers.
use Rattle.std.specs.Prelude.{◌≡◌, ℕ, List}
use Rattle.stm_model.specs.Handlers.{Handlers}

-- the handlers and the before-commit bodies in order of registration, and how many more of each need no memory
pub record Registered : Type 0 where
  pub hooks : Handlers
  pub laters : List ℕ
  pub spare : ℕ
  pub spare_laters : ℕ

-- The handlers are the same, and so is their room.
pub record SameHooks (before after : Registered) : Type 0 where
  pub hooks : after.hooks ≡ before.hooks
  pub spare : after.spare ≡ before.spare

-- The before-commit bodies are the same, and so is their room.
pub record SameLaters (before after : Registered) : Type 0 where
  pub laters : after.laters ≡ before.laters
  pub spare : after.spare_laters ≡ before.spare_laters
