use Rattle.std.proofs.Common.{◌-◌, Some, sym, refl, ◌∙◌, arith, set}
use Rattle.world_run.specs.Simulation.{simulation_of}
use Rattle.world_run.proofs.Turns.{begins, serial_is, within}
use Rattle.world_run.proofs.simulation.Simulation.begin.Goals as goal

pub returns-then-not-rests-clause-told : goal.returns-then-not-rests-clause-told
returns-then-not-rests-clause-told g c = λ may. sym c.if-not-rests.true ∙ c.rests.ensures.told may.over

pub returns-then-serial-self-clause-told : goal.returns-then-serial-self-clause-told
returns-then-serial-self-clause-told g c = λ may.
    let able = rw (← c.self.view_is) at may in
    let same = serial_is c.self.invariant c.args.caller (rw (← c.self.view_is) at c.requires.caller) able.over ∙ sym (rw (← c.self.view_is) at c.serial-serial.ensures) in
    absurd (omega (arith, same, able.serial, c.if-serial-self.true))

pub invariant_of-self : goal.invariant_of-self
invariant_of-self g c =
    let inside = c.self.inside in
    let after = simulation_of inside.world inside.settings (set inside.machines.items (c.args.caller - 1) (Some c.begin-attempt.result)) in
    let caller = rw (← c.self.view_is) at c.requires.caller in
    (begins c.self.invariant c.args.caller caller (rw (← c.self.view_is) at (c.rests.ensures.over c.if-not-rests.false)) c.serial-serial.result (rw (← c.self.view_is) at c.serial-serial.ensures) c.if-serial-self.false
    {after = after} (record { terms = record { law = refl; opening = refl; settings = refl }; within = within c.self.invariant c.args.caller caller; machines = refl }) refl refl c.begin-attempt.ensures.begins).invariant

pub returns-clause-begins : goal.returns-clause-begins
returns-clause-begins g c = λ yes.
    let inside = c.self.inside in
    let after = simulation_of inside.world inside.settings (set inside.machines.items (c.args.caller - 1) (Some c.begin-attempt.result)) in
    let caller = rw (← c.self.view_is) at c.requires.caller in
    rw (← c.self.view_is)
    (begins c.self.invariant c.args.caller caller (rw (← c.self.view_is) at (c.rests.ensures.over c.if-not-rests.false)) c.serial-serial.result (rw (← c.self.view_is) at c.serial-serial.ensures) c.if-serial-self.false
    {after = after} (record { terms = record { law = refl; opening = refl; settings = refl }; within = within c.self.invariant c.args.caller caller; machines = refl }) refl refl c.begin-attempt.ensures.begins).happens

pub returns-clause-may : goal.returns-clause-may
returns-clause-may g c = λ yes.
    let over = rw (← c.self.view_is) at (c.rests.ensures.over c.if-not-rests.false) in
    let same = serial_is c.self.invariant c.args.caller (rw (← c.self.view_is) at c.requires.caller) over ∙ sym (rw (← c.self.view_is) at c.serial-serial.ensures) in
    rw (← c.self.view_is) (record { over = over; serial = omega (arith, same, c.if-serial-self.false) })
