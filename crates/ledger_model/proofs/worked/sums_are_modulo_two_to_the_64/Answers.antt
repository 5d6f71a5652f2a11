use Rattle.ledger_model.specs.Run.{late_bodies}
use Rattle.ledger_model.proofs.WorkedLemmas.{computing}
use Rattle.ledger_model.proofs.worked.sums_are_modulo_two_to_the_64.Goals as goal

pub returns-clause-prints : goal.returns-clause-prints
unfolding late_bodies
returns-clause-prints c = simp computing

pub returns-clause-refs : goal.returns-clause-refs
unfolding late_bodies
returns-clause-refs c = simp computing
