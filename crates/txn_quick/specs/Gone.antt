-- Private: what a quick call leaves of an attempt.
use Rattle.std.specs.Prelude.{ℕ, List}
use Rattle.stm_model.specs.World.{Terms}
use Rattle.txn_drive.specs.Going.{Goes}
use Rattle.txn_drive.specs.Moment.{Moment}
use Rattle.txn_drive.specs.Standing.{IsOn, Rests}

-- The attempt has gone on by its steps, its caller's seat knows it, and it waits to be asked or is over.
pub record HasGone (lawful : List ℕ → Type 0) (may : List ℕ → List ℕ → Type 0) (terms : Terms) (before after : Moment) : Type 0 where
  pub goes : Goes before after
  pub on : IsOn lawful may terms after.seat after.attempt
  pub rests : Rests after.attempt
