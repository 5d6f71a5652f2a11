use Rattle.std.specs.Prelude.{◌-◌}
use Rattle.bank.specs.Ready.{IsReady}
use Rattle.bank.proofs.worker.Worker.work.Given as goal

abbrev pub invariant-loop-self : goal.invariant-loop-self
invariant-loop-self l = IsReady l.stm l.self

abbrev pub decreases-loop-self : goal.decreases-loop-self
decreases-loop-self l = l.self.scripts.task.scripts - l.self.scripts.number
