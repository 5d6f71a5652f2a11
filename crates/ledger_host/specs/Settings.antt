-- The settings of a run that no words change.
use Rattle.std.specs.Prelude.{max, length}
use Rattle.meta_word.specs.declared.meta.TheConstants.{MAX_VERSION}
use Rattle.meta_word.specs.declared.policy.Policy.TheVariants.{Look}
use Rattle.stm_model.specs.declared.settings.Settings.{Settings}
use Rattle.ledger_model.specs.declared.job.Job.{Job}

-- A caller for each worker, or one where there is none. One look at a cell that another owns, three more tries for the clock, the greatest clock that a metadata word holds, and a million attempts a worker.
abbrev pub default_settings : Job → Settings
default_settings job = record { callers = max (length job.workers) 1; policy = Look 0; tries = 3; clock = MAX_VERSION; attempts = 1000000 }
