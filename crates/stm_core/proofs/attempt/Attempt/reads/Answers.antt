use Rattle.stm_core.proofs.Shown.{notes_shown}
use Rattle.stm_core.proofs.attempt.Attempt.reads.Goals as goal

pub returns : goal.returns
returns c = notes_shown c.self.inside.running c.args.self.now c.self.invariant c.self.view_is
