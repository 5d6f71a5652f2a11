use Rattle.std.proofs.Common.{refl}
use Rattle.world_run.specs.Simulation.{simulation_of}
use Rattle.world_run.proofs.Asks.{ends_late}
use Rattle.world_run.proofs.simulation.Simulation.end_late.Goals as goal

pub invariant_of-self : goal.invariant_of-self
invariant_of-self g c =
    let inside = c.self.inside in
    let after = simulation_of inside.world inside.settings c.end_late_at.new.machines.items in
    (ends_late c.self.invariant c.args.caller (rw (← c.self.view_is) at c.requires.caller) (rw (← c.self.view_is) at (c.waits_late.ensures.late c.if-not-waits_late.false)) {after = after} (record { law = refl; opening = refl; settings = refl }) refl refl c.end_late_at.ensures).invariant

pub returns-clause-ends : goal.returns-clause-ends
returns-clause-ends g c = λ yes.
    let inside = c.self.inside in
    let after = simulation_of inside.world inside.settings c.end_late_at.new.machines.items in
    rw (← c.self.view_is)
    (ends_late c.self.invariant c.args.caller (rw (← c.self.view_is) at c.requires.caller) (rw (← c.self.view_is) at (c.waits_late.ensures.late c.if-not-waits_late.false)) {after = after} (record { law = refl; opening = refl; settings = refl }) refl refl c.end_late_at.ensures).happens
