use Rattle.stm_core.proofs.Shown.{same_attempt}
use Rattle.stm_core.proofs.attempt.Attempt.take.Goals as goal

pub returns-clause-same : goal.returns-clause-same
returns-clause-same c = same_attempt c.self.inside.running c.take.new.self c.args.self.now c.self.invariant c.take.ensures.sound c.self.view_is c.take.ensures.numbers
