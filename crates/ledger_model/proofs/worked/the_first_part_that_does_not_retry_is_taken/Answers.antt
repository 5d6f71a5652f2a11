use Rattle.ledger_model.specs.Run.{late_bodies}
use Rattle.ledger_model.proofs.WorkedLemmas.{computing}
use Rattle.ledger_model.proofs.worked.the_first_part_that_does_not_retry_is_taken.Goals as goal

pub returns-clause-first : goal.returns-clause-first
unfolding late_bodies
returns-clause-first c = simp computing

pub returns-clause-second : goal.returns-clause-second
unfolding late_bodies
returns-clause-second c = simp computing

pub returns-clause-other : goal.returns-clause-other
unfolding late_bodies
returns-clause-other c = simp computing

pub returns-clause-none : goal.returns-clause-none
unfolding late_bodies
returns-clause-none c = simp computing

pub returns-clause-outer : goal.returns-clause-outer
unfolding late_bodies
returns-clause-outer c = simp computing
