use Rattle.ledger_model.specs.Run.{late_bodies}
use Rattle.ledger_model.proofs.WorkedLemmas.{computing}
use Rattle.ledger_model.proofs.worked.a_move_is_whole_or_fails.Goals as goal

pub returns-clause-all : goal.returns-clause-all
unfolding late_bodies
returns-clause-all c = simp computing

pub returns-clause-overdraft : goal.returns-clause-overdraft
unfolding late_bodies
returns-clause-overdraft c = simp computing

pub returns-clause-fits : goal.returns-clause-fits
unfolding late_bodies
returns-clause-fits c = simp computing

pub returns-clause-overflow : goal.returns-clause-overflow
unfolding late_bodies
returns-clause-overflow c = simp computing

pub returns-clause-itself : goal.returns-clause-itself
unfolding late_bodies
returns-clause-itself c = (simp computing, simp computing)
