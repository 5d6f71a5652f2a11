use Rattle.ledger_model.specs.Run.{late_bodies}
use Rattle.ledger_model.proofs.WorkedLemmas.{computing}
use Rattle.ledger_model.proofs.worked.a_failure_goes_to_the_nearest_block.Goals as goal

pub returns-clause-prints : goal.returns-clause-prints
unfolding late_bodies
returns-clause-prints c = simp computing

pub returns-clause-trail : goal.returns-clause-trail
unfolding late_bodies
returns-clause-trail c = simp computing

pub returns-clause-reads : goal.returns-clause-reads
unfolding late_bodies
returns-clause-reads c = simp computing
