-- The jobs of the tests.
use Rattle.std.specs.Prelude.{max, length}
use Rattle.meta_word.specs.declared.meta.TheConstants.{MAX_VERSION}
use Rattle.meta_word.specs.declared.policy.Policy.TheVariants.{Look}
use Rattle.stm_model.specs.declared.settings.Settings.{Settings}
use Rattle.ledger_model.specs.declared.job.Job.{Job}
use Rattle.ledger_model.specs.Traced.{MayBeTraced}

-- One look at a cell that another uses, the greatest clock, and a million attempts a worker.
abbrev pub plain_settings : Job → Settings
plain_settings job = record { callers = max (length job.workers) 1; policy = Look 0; tries = 3; clock = MAX_VERSION; attempts = 1000000 }

-- It may be traced under these.
abbrev pub IsTraceable : Job → Type 0
IsTraceable job = MayBeTraced job (plain_settings job)
