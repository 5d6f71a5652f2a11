use Rattle.ledger_model.proofs.Growing.{block_sizes, run_sizes}
use Rattle.ledger_model.proofs.Listed.{listed_sized}
use Rattle.ledger_model.proofs.laws.no_run_changes_a_size.Goals as goal

pub returns-clause-block : goal.returns-clause-block
returns-clause-block c = block_sizes

pub returns-clause-run : goal.returns-clause-run
returns-clause-run c = run_sizes

pub returns-clause-listed : goal.returns-clause-listed
returns-clause-listed c = listed_sized
