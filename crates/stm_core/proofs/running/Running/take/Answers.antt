use Rattle.std.proofs.Common.{subst}
use Rattle.stm_core.proofs.Shown.{nothing_due}
use Rattle.stm_core.specs.Running.{InvariantAt}
use Rattle.stm_core.proofs.running.Running.take.Goals as goal

pub take_commit-requires-clause-commits : goal.take_commit-requires-clause-commits
take_commit-requires-clause-commits c = record {
  fits = c.requires.sound.fits;
  nothing_due = nothing_due c.args.self.now c.requires.sound c.requires.may.going;
  holds = subst (InvariantAt c.args.self.now) c.in-Commit.is c.requires.sound.holds;
}
