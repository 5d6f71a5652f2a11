use Rattle.stm_core.specs.Running.{InvariantAt}
use Rattle.stm_core.proofs.running.Running.take_commit.Goals as goal

pub put_commit-requires-clause-commits : goal.put_commit-requires-clause-commits
unfolding InvariantAt
put_commit-requires-clause-commits c = record { made_for = c.take.ensures.same _ c.requires.commits.holds.0.made_for; along = c.take.ensures.along }
