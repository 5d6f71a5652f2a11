use Rattle.ledger_model.proofs.Growing.{block_grows, block_lates, late_bodies_grow, statement_grows, statement_lates, own_handlers, run_totals}
use Rattle.ledger_model.proofs.laws.what_is_recorded_stays_in_front.Goals as goal

pub returns-clause-statement : goal.returns-clause-statement
returns-clause-statement c statement s = (statement_grows statement s, statement_lates statement s)

pub returns-clause-block : goal.returns-clause-block
returns-clause-block c block s = (block_grows block s, block_lates block s)

pub returns-clause-late_bodies : goal.returns-clause-late_bodies
returns-clause-late_bodies c = late_bodies_grow

pub returns-clause-totals : goal.returns-clause-totals
returns-clause-totals c = run_totals

pub returns-clause-undone : goal.returns-clause-undone
returns-clause-undone c = own_handlers
