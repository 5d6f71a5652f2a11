use Rattle.ledger_model.specs.Run.{late_bodies}
use Rattle.ledger_model.proofs.WorkedLemmas.{computing}
use Rattle.ledger_model.proofs.worked.retries_leave_blocks_and_failures_leave_parts.Goals as goal

pub returns-clause-prints : goal.returns-clause-prints
unfolding late_bodies
returns-clause-prints c = simp computing

pub returns-clause-trail : goal.returns-clause-trail
unfolding late_bodies
returns-clause-trail c = simp computing

pub returns-clause-runs : goal.returns-clause-runs
unfolding late_bodies
returns-clause-runs c = simp computing

pub returns-clause-hooks : goal.returns-clause-hooks
unfolding late_bodies
returns-clause-hooks c = simp computing

pub returns-clause-script : goal.returns-clause-script
unfolding late_bodies
returns-clause-script c = (simp computing, simp computing, simp computing)
