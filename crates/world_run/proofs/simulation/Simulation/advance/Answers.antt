use Rattle.std.proofs.Common.{Some, inl, inr, sym, refl, ap, ◌∙◌}
use Rattle.stm_core.specs.Machine.{next_of}
use Rattle.world_run.specs.Simulation.{attempt_in}
use Rattle.world_run.proofs.Nexts.{always_on_err, due_turn, is_quiet, step_turn, to_decide}
use Rattle.world_run.proofs.Turns.{idle}
use Rattle.world_run.proofs.simulation.Simulation.advance.Goals as goal

pub step-requires-clause-next : goal.step-requires-clause-next
step-requires-clause-next g c = rw (c.in-Some.is, c.in-Access.is) at c.next.ensures.promises

pub decide-requires-clause-next : goal.decide-requires-clause-next
decide-requires-clause-next g c = rw (c.in-Some.is, c.in-Decide.is) at c.next.ensures.promises

pub did-requires-clause-due : goal.did-requires-clause-due
did-requires-clause-due g c = elim c.in-Ring.is [
  | inl ring ↦ (rw (c.in-Some.is, ring.1) at c.next.ensures.promises).some
  | inr run ↦ (rw (c.in-Some.is, run.2) at c.next.ensures.promises).some
]

pub returns-in_default-clause-happens : goal.returns-in_default-clause-happens
returns-in_default-clause-happens g c =
    let rests = is_quiet (attempt_in c.args.self.now c.args.caller) c.next.result c.next.ensures.next (rw c.in_default.is refl) in
    rw rests.1 (idle g.L.Law.lawful g.L.Law.may c.args.self.now c.args.caller c.requires.caller rests.0)

pub returns-in-Access-clause-happens : goal.returns-in-Access-clause-happens
returns-in-Access-clause-happens g c =
    let makes = rw (c.in-Some.is, c.in-Access.is) at c.next.ensures.promises in
    rw (step_turn c.args.caller (attempt_in c.args.self.now c.args.caller) makes.act makes.next) c.step.ensures.happens

pub returns-in_ok-decide-in-Decide-clause-happens : goal.returns-in_ok-decide-in-Decide-clause-happens
returns-in_ok-decide-in-Decide-clause-happens g c =
    let decides = rw (c.in-Some.is, c.in-Decide.is) at c.next.ensures.promises in
    rw (step_turn c.args.caller (attempt_in c.args.self.now c.args.caller) _ decides.next) c.in_ok-decide-in-Decide.ensures.steps.happens

pub returns-in-Ring-clause-happens : goal.returns-in-Ring-clause-happens
returns-in-Ring-clause-happens g c = elim c.in-Ring.is [
  | inl ring ↦ rw (due_turn c.args.caller (attempt_in c.args.self.now c.args.caller).due (rw (c.in-Some.is, ring.1) at c.next.ensures.promises).some) c.did.ensures.happens
  | inr run ↦ rw (due_turn c.args.caller (attempt_in c.args.self.now c.args.caller).due (rw (c.in-Some.is, run.2) at c.next.ensures.promises).some) c.did.ensures.happens
]

pub returns-in-Before-clause-happens : goal.returns-in-Before-clause-happens
returns-in-Before-clause-happens g c = elim c.in-Before.is [
  | inl before ↦
      let rests = is_quiet (attempt_in c.args.self.now c.args.caller) c.next.result c.next.ensures.next (rw (c.in-Some.is, before.1) refl) in
      rw rests.1 (idle g.L.Law.lawful g.L.Law.may c.args.self.now c.args.caller c.requires.caller rests.0)
  | inr reply ↦
      let rests = is_quiet (attempt_in c.args.self.now c.args.caller) c.next.result c.next.ensures.next (rw (c.in-Some.is, reply.1) refl) in
      rw rests.1 (idle g.L.Law.lawful g.L.Law.may c.args.self.now c.args.caller c.requires.caller rests.0)
]

pub returns-in_err-decide-in-Decide-clause-wants : goal.returns-in_err-decide-in-Decide-clause-wants
returns-in_err-decide-in-Decide-clause-wants g c =
    always_on_err c.from_residual.result
    (to_decide (next_of (attempt_in c.args.self.now c.args.caller)) c.in-Decide.old (sym c.next.ensures.next ∙ c.in-Some.is ∙ ap Some c.in-Decide.is))
