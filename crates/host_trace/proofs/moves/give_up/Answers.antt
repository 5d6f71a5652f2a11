use Rattle.std.proofs.Common.{◌≡◌, Some, None, inl, inr, refl, ap, sym, ◌∙◌}
use Rattle.stm_model.specs.Attempt.{cause_at}
use Rattle.world_run.specs.Simulation.{attempt_in}
use Rattle.host_trace.specs.Tellings.{told_refusal}
use Rattle.host_trace.proofs.Asking.{gives_leads, gives_nothing, gives_rolls, may_give_up}
use Rattle.host_trace.proofs.Telling.{refusal_is}
use Rattle.host_trace.proofs.moves.give_up.Goals as goal

pub returns-in-Some-clause-leads : goal.returns-in-Some-clause-leads
returns-in-Some-clause-leads c =
    let p = c.args.caller in
    let t = attempt_in c.args.simulation.now p in
    let whole = c.next.ensures.invariant in
    let is : cause_at t.stage ≡ Some c.in-Some.cause = sym (refusal_is t c.requires.nothing_due) ∙ ap told_refusal (sym c.next.ensures.next) ∙ sym c.refusal_in.ensures ∙ c.in-Some.is in
    let asks = c.ask.ensures.asked (c.ask.ensures.told (may_give_up _ t c.in-Some.cause c.requires.nothing_due is)) in
    gives_leads p c.requires.caller c.in-Some.cause c.requires.nothing_due is asks whole.world whole.shows c.ask.ensures.same

pub returns-in-Some-clause-gives : goal.returns-in-Some-clause-gives
returns-in-Some-clause-gives c =
    let p = c.args.caller in
    let t = attempt_in c.args.simulation.now p in
    let whole = c.next.ensures.invariant in
    let is : cause_at t.stage ≡ Some c.in-Some.cause = sym (refusal_is t c.requires.nothing_due) ∙ ap told_refusal (sym c.next.ensures.next) ∙ sym c.refusal_in.ensures ∙ c.in-Some.is in
    let asks = c.ask.ensures.asked (c.ask.ensures.told (may_give_up _ t c.in-Some.cause c.requires.nothing_due is)) in
    inr (gives_rolls p c.requires.caller c.in-Some.cause c.requires.nothing_due is asks whole.world whole.shows)

pub returns-in_default-clause-leads : goal.returns-in_default-clause-leads
returns-in_default-clause-leads c =
    let p = c.args.caller in
    let t = attempt_in c.args.simulation.now p in
    let calm : cause_at t.stage ≡ None = sym (refusal_is t c.requires.nothing_due) ∙ ap told_refusal (sym c.next.ensures.next) ∙ sym c.refusal_in.ensures ∙ c.in_default.is in
    gives_nothing p c.requires.caller calm

pub returns-in_default-clause-gives : goal.returns-in_default-clause-gives
returns-in_default-clause-gives c =
    let p = c.args.caller in
    let t = attempt_in c.args.simulation.now p in
    let calm : cause_at t.stage ≡ None = sym (refusal_is t c.requires.nothing_due) ∙ ap told_refusal (sym c.next.ensures.next) ∙ sym c.refusal_in.ensures ∙ c.in_default.is in
    inl (calm, refl)
