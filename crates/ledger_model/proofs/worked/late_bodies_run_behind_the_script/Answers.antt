use Rattle.ledger_model.specs.Run.{late_bodies}
use Rattle.ledger_model.proofs.WorkedLemmas.{computing}
use Rattle.ledger_model.proofs.worked.late_bodies_run_behind_the_script.Goals as goal

pub returns-clause-counted : goal.returns-clause-counted
unfolding late_bodies
returns-clause-counted c = simp computing

pub returns-clause-nested : goal.returns-clause-nested
unfolding late_bodies
returns-clause-nested c = simp computing

pub returns-clause-blocks : goal.returns-clause-blocks
unfolding late_bodies
returns-clause-blocks c = simp computing

pub returns-clause-parts : goal.returns-clause-parts
unfolding late_bodies
returns-clause-parts c = simp computing
