use Rattle.ledger_model.specs.Maps.{hash}
use Rattle.ledger_model.specs.Run.{late_bodies}
use Rattle.ledger_model.proofs.WorkedLemmas.{computing}
use Rattle.ledger_model.proofs.worked.shares_and_snapshots_stay_apart.Goals as goal

pub returns-clause-prints : goal.returns-clause-prints
unfolding hash late_bodies
returns-clause-prints c = simp computing

pub returns-clause-pairs : goal.returns-clause-pairs
unfolding hash late_bodies
returns-clause-pairs c = simp computing

pub returns-clause-slots : goal.returns-clause-slots
unfolding hash late_bodies
returns-clause-slots c = simp computing

pub returns-clause-totals : goal.returns-clause-totals
unfolding hash late_bodies
returns-clause-totals c = simp computing
