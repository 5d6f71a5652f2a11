use Rattle.std.proofs.Common.{refl}
use Rattle.world_run.specs.Simulation.{simulation_of}
use Rattle.world_run.proofs.Asks.{asked_happens, asked_invariant, may_be_asked}
use Rattle.world_run.proofs.simulation.Simulation.ask.Goals as goal

pub ask_at-requires : goal.ask_at-requires
ask_at-requires g c =
    may_be_asked c.self.invariant c.args.caller (rw (← c.self.view_is) at c.requires.caller) c.args.ask (rw (← c.self.view_is) at (c.may_ask.ensures.may c.if-not-may_ask.false)) c.self.inside.world.short

pub invariant_of-self : goal.invariant_of-self
invariant_of-self g c =
    let inside = c.self.inside in
    let after = simulation_of inside.world inside.settings c.ask_at.new.machines.items in
    asked_invariant c.self.invariant c.args.caller (rw (← c.self.view_is) at c.requires.caller) c.args.ask (rw (← c.self.view_is) at (c.may_ask.ensures.may c.if-not-may_ask.false))
    {after = after} (record { law = refl; opening = refl; settings = refl }) refl refl c.ask_at.ensures

pub returns-clause-asked : goal.returns-clause-asked
returns-clause-asked g c = λ yes.
    let inside = c.self.inside in
    let after = simulation_of inside.world inside.settings c.ask_at.new.machines.items in
    rw (← c.self.view_is)
    (asked_happens c.self.invariant c.args.caller (rw (← c.self.view_is) at c.requires.caller) c.args.ask (rw (← c.self.view_is) at (c.may_ask.ensures.may c.if-not-may_ask.false))
    {after = after} (record { law = refl; opening = refl; settings = refl }) refl refl c.ask_at.ensures)
