-- By what a worked script computes.
use Rattle.std.proofs.Common.{◌≡◌, ℕ}
use Rattle.ledger_model.specs.declared.script.Statement.{Statement}
use Rattle.ledger_model.specs.declared.script.Statement.TheOpen.{Statement-F}
use Rattle.ledger_model.specs.declared.script.Statement.TheFolds.{fold-Statement, fold-roll-Statement, map-Statement}
use Rattle.ledger_model.specs.declared.script.Statement.TheViews.{roll-Statement}
use Rattle.ledger_model.specs.Run.{count_step}
use Rattle.ledger_model.proofs.Meaning.{itself-known, meaning-roll}

pub size-roll : (x : Statement-F Statement) → fold-Statement ℕ count_step (roll-Statement x) ≡ count_step (map-Statement Statement ℕ (fold-Statement ℕ count_step) x)
size-roll = fold-roll-Statement ℕ count_step

pub ruleset computing = (meaning-roll, itself-known, size-roll)
