use Rattle.std.proofs.Common.{sym, ◌∙◌}
use Rattle.world_run.specs.Simulation.{attempt_in}
use Rattle.world_run.proofs.Nexts.{awaits, tells_waits}
use Rattle.world_run.proofs.simulation.Simulation.waits.Goals as goal

pub returns-in-Some-clause-waits : goal.returns-in-Some-clause-waits
returns-in-Some-clause-waits g c = λ is. awaits (attempt_in c.args.self.now c.args.caller) c.in-Some.next (rw c.in-Some.is at c.next.ensures.promises) (sym c.waits.ensures ∙ is)

pub returns-in-Some-clause-told : goal.returns-in-Some-clause-told
returns-in-Some-clause-told g c = λ able. c.waits.ensures ∙ (rw c.in-Some.is at (tells_waits (attempt_in c.args.self.now c.args.caller) c.next.result c.next.ensures.next able))

pub returns-in-None-clause-told : goal.returns-in-None-clause-told
returns-in-None-clause-told g c = λ able. rw c.in-None.is at (tells_waits (attempt_in c.args.self.now c.args.caller) c.next.result c.next.ensures.next able)
