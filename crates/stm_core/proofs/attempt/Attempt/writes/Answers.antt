use Rattle.stm_core.proofs.Shown.{writes_shown}
use Rattle.stm_core.proofs.attempt.Attempt.writes.Goals as goal

pub returns : goal.returns
returns c = writes_shown c.self.inside.running c.args.self.now c.self.invariant c.self.view_is
