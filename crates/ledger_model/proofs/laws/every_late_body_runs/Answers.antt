use Rattle.ledger_model.proofs.Lates.{all_lates_run, turns_suffice}
use Rattle.ledger_model.proofs.laws.every_late_body_runs.Goals as goal

pub returns-clause-none_left : goal.returns-clause-none_left
returns-clause-none_left c = all_lates_run

pub returns-clause-turns : goal.returns-clause-turns
returns-clause-turns c = turns_suffice
