-- The limits of a table.
use Rattle.std.specs.Prelude.{ℕ, ◌<◌, ◌≤◌}
use Rattle.meta_word.specs.Policy.{looks}
use Rattle.meta_word.specs.declared.meta.TheConstants.{MAX_OWNER, MAX_VERSION}
use Rattle.meta_word.specs.declared.status.TheConstants.{MAX_SERIAL}
use Rattle.stm_model.specs.declared.settings.Settings.{Settings}
use Rattle.stm_model.specs.declared.sizes.TheConstants.{MOST_CELLS}

-- A table of so many cells may be made under these settings.
pub record TableFits (count : ℕ) (settings : Settings) : Type 0 where
  pub cells : count ≤ MOST_CELLS
  pub some_caller : 0 < settings.callers
  pub callers : settings.callers ≤ MAX_OWNER
  pub tries : settings.tries ≤ 1000
  pub looks : looks settings.policy ≤ 1000
  pub some_commit : 0 < settings.clock
  pub clock : settings.clock ≤ MAX_VERSION
  pub some_attempt : 0 < settings.attempts
  pub attempts : settings.attempts ≤ MAX_SERIAL
