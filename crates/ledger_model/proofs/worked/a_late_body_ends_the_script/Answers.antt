use Rattle.ledger_model.specs.Run.{late_bodies}
use Rattle.ledger_model.proofs.WorkedLemmas.{computing}
use Rattle.ledger_model.proofs.worked.a_late_body_ends_the_script.Goals as goal

pub returns-clause-fails : goal.returns-clause-fails
unfolding late_bodies
returns-clause-fails c = (simp computing, simp computing, simp computing)

pub returns-clause-retries : goal.returns-clause-retries
unfolding late_bodies
returns-clause-retries c = (simp computing, simp computing)
