use Rattle.ledger_model.proofs.Lates.{recorded_once}
use Rattle.ledger_model.proofs.laws.a_run_records_at_most_its_statements.Goals as goal

pub returns : goal.returns
returns c = recorded_once
