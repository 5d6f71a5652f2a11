use Rattle.world_run.proofs.Asks.{nobody_waits}
use Rattle.world_run.proofs.simulation.Simulation.may_ask.Goals as goal

pub returns-in-None-clause-told : goal.returns-in-None-clause-told
returns-in-None-clause-told g c = λ askable.
    nobody_waits c.self.inside.settings c.args.caller c.self.inside.machines.items c.index.result.now c.index.ensures c.in-None.is (rw (← c.self.view_is) at askable.waits)
