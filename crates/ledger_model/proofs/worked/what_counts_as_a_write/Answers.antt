use Rattle.ledger_model.specs.Maps.{hash}
use Rattle.ledger_model.specs.Run.{late_bodies}
use Rattle.ledger_model.proofs.WorkedLemmas.{computing}
use Rattle.ledger_model.proofs.worked.what_counts_as_a_write.Goals as goal

pub returns-clause-same : goal.returns-clause-same
unfolding hash late_bodies
returns-clause-same c = (simp computing, simp computing)

pub returns-clause-snap : goal.returns-clause-snap
unfolding hash late_bodies
returns-clause-snap c = simp computing

pub returns-clause-share : goal.returns-clause-share
unfolding hash late_bodies
returns-clause-share c = simp computing

pub returns-clause-undone : goal.returns-clause-undone
unfolding hash late_bodies
returns-clause-undone c = (simp computing, simp computing)

pub returns-clause-nothing : goal.returns-clause-nothing
unfolding hash late_bodies
returns-clause-nothing c = (simp computing, simp computing, simp computing)
