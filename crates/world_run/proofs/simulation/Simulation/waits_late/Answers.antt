use Rattle.std.proofs.Common.{Some, sym, subst, ◌∙◌}
use Rattle.stm_model.specs.Attempt.{Attempt}
use Rattle.world_run.specs.Simulation.{WaitsLate}
use Rattle.world_run.proofs.Nexts.{tells_waits}
use Rattle.world_run.proofs.Turns.{seat_is, within}
use Rattle.world_run.proofs.simulation.Simulation.waits_late.Goals as goal

pub returns-else-waits-clause-told : goal.returns-else-waits-clause-told
returns-else-waits-clause-told g c = λ late.
    let caller = rw (← c.self.view_is) at c.requires in
    let own = seat_is c.self.inside.settings c.args.caller c.self.inside.machines.items (within c.self.invariant c.args.caller caller) c.index.result.now c.in-Some.attempt c.index.ensures c.in-Some.is in
    let waits = subst (λ (t : Attempt). WaitsLate t) own (rw (← c.self.view_is) at late) in
    c.waits.ensures ∙ tells_waits c.in-Some.attempt.attempt (Some c.next.result) (sym c.next.ensures.next) waits.waits
