use Rattle.ledger_model.specs.Run.{late_bodies}
use Rattle.ledger_model.proofs.WorkedLemmas.{computing}
use Rattle.ledger_model.proofs.worked.handlers_run_by_how_the_script_is_settled.Goals as goal

pub returns-clause-commits : goal.returns-clause-commits
unfolding late_bodies
returns-clause-commits c = (simp computing, simp computing)

pub returns-clause-reads : goal.returns-clause-reads
unfolding late_bodies
returns-clause-reads c = (simp computing, simp computing)

pub returns-clause-spends : goal.returns-clause-spends
unfolding late_bodies
returns-clause-spends c = (simp computing, simp computing)

pub returns-clause-fails : goal.returns-clause-fails
unfolding late_bodies
returns-clause-fails c = (simp computing, simp computing)

pub returns-clause-retries : goal.returns-clause-retries
unfolding late_bodies
returns-clause-retries c = (simp computing, simp computing)
