use Rattle.ledger_model.proofs.Growing.{block_unwritten, run_unwritten}
use Rattle.ledger_model.proofs.laws.who_writes_nothing_changes_nothing.Goals as goal

pub returns-clause-block : goal.returns-clause-block
returns-clause-block c = block_unwritten

pub returns-clause-run : goal.returns-clause-run
returns-clause-run c = run_unwritten
