use Rattle.stm_core.proofs.Shown.{notes_shown}
use Rattle.stm_core.proofs.attempt.Attempt.into_reads.Goals as goal

pub returns : goal.returns
returns c = notes_shown c.self.inside.running c.args.self c.self.invariant c.self.view_is
