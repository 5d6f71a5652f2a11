use Rattle.std.proofs.Common.{◌≡◌, Option, Some, None, ap, sym, refl, subst, ◌∙◌}
use Rattle.stm_core.specs.Machine.{Machine, Promises, after_due, next_of, standing}
use Rattle.stm_core.specs.declared.next.Next.{Next}
use Rattle.stm_model.specs.Attempt.{Attempt}
use Rattle.world_run.specs.Simulation.{Simulation, IsOver, attempt_in, latest}
use Rattle.world_run.proofs.Truths.{tells_truth}
use Rattle.world_run.proofs.Turns.{seat_is, within}
use Rattle.world_run.proofs.simulation.Simulation.next.Goals as goal

pub returns-in-None-clause-next : goal.returns-in-None-clause-next
unfolding after_due standing
returns-in-None-clause-next g c =
    let none = rw c.in-None.is at c.index.ensures in
    subst (λ (v : Simulation _). (let answer : Option Next = None in answer ≡ next_of (attempt_in v c.args.caller))) c.self.view_is
    (ap (λ (machine : Option Machine). next_of (latest c.self.inside.settings c.args.caller machine)) none)

pub returns-in-Some-clause-tells : goal.returns-in-Some-clause-tells
returns-in-Some-clause-tells g c =
    let caller = rw (← c.self.view_is) at c.requires in
    let own = seat_is c.self.inside.settings c.args.caller c.self.inside.machines.items (within c.self.invariant c.args.caller caller) c.index.result.now c.in-Some.attempt c.index.ensures c.in-Some.is in
    rw (← c.self.view_is) (tells_truth c.self.invariant.whole.shows c.args.caller caller (Some c.next.result) (sym c.next.ensures.next ∙ ap (λ (t : Attempt). next_of t) (sym own)))

pub returns-in-Some-clause-promises : goal.returns-in-Some-clause-promises
returns-in-Some-clause-promises g c =
    let caller = rw (← c.self.view_is) at c.requires in
    let own = seat_is c.self.inside.settings c.args.caller c.self.inside.machines.items (within c.self.invariant c.args.caller caller) c.index.result.now c.in-Some.attempt c.index.ensures c.in-Some.is in
    subst (λ (v : Simulation _). Promises (attempt_in v c.args.caller) c.next.result) c.self.view_is (subst (λ (t : Attempt). Promises t c.next.result) (sym own) c.next.ensures.promises)

pub returns-in-None-clause-none : goal.returns-in-None-clause-none
returns-in-None-clause-none g c =
    let none = rw c.in-None.is at c.index.ensures in
    subst (λ (v : Simulation _). IsOver (attempt_in v c.args.caller)) c.self.view_is
    (subst (λ (machine : Option Machine). IsOver (latest c.self.inside.settings c.args.caller machine)) none (record { ended = refl; nothing_due = refl }))
