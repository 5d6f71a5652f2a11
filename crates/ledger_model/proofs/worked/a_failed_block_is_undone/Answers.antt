use Rattle.ledger_model.specs.Run.{late_bodies}
use Rattle.ledger_model.proofs.WorkedLemmas.{computing}
use Rattle.ledger_model.proofs.worked.a_failed_block_is_undone.Goals as goal

pub returns-clause-kept : goal.returns-clause-kept
unfolding late_bodies
returns-clause-kept c = simp computing

pub returns-clause-prints : goal.returns-clause-prints
unfolding late_bodies
returns-clause-prints c = simp computing

pub returns-clause-trail : goal.returns-clause-trail
unfolding late_bodies
returns-clause-trail c = simp computing

pub returns-clause-refs : goal.returns-clause-refs
unfolding late_bodies
returns-clause-refs c = simp computing
