use Rattle.ledger_model.specs.Run.{late_bodies}
use Rattle.ledger_model.proofs.WorkedLemmas.{computing}
use Rattle.ledger_model.proofs.worked.tests_pass_at_equality.Goals as goal

pub returns-clause-passed : goal.returns-clause-passed
unfolding late_bodies
returns-clause-passed c = simp computing

pub returns-clause-failed : goal.returns-clause-failed
unfolding late_bodies
returns-clause-failed c = (simp computing, simp computing)

pub returns-clause-retried : goal.returns-clause-retried
unfolding late_bodies
returns-clause-retried c = (simp computing, simp computing)
