use Rattle.std.proofs.Common.{◌≡◌, Some, None, ap, sym, ◌∙◌}
use Rattle.std.proofs.lemmas.Result.{on_ok_weaker}
use Rattle.ledger_model.specs.Traced.{answer_at}
use Rattle.world_run.specs.Simulation.{attempt_in}
use Rattle.host_trace.specs.Tellings.{told_answer}
use Rattle.host_trace.proofs.Answering.{goes_leads, goes_nearer, goes_nowhere, hearing_then}
use Rattle.host_trace.proofs.Telling.{answer_is}
use Rattle.host_trace.proofs.flight.Flight.go_on.Goals as goal

pub speak_on-requires-clause-hearing : goal.speak_on-requires-clause-hearing
speak_on-requires-clause-hearing c =
    let p = c.args.caller in
    let t = attempt_in c.args.simulation.now p in
    let loud : answer_at t.stage ≡ Some c.in-Some.answer = sym (answer_is t c.requires.nothing_due) ∙ ap told_answer (sym c.next.ensures.next) ∙ sym c.answer_in.ensures ∙ c.in-Some.is in
    let whole = c.next.ensures.invariant in
    hearing_then p c.args.simulation.now c.args.self.now c.hear.new.self c.in-Some.answer c.requires.expects c.requires.nothing_due loud c.in_ok-hear-in-Some.ensures (whole.world, whole.shows)

pub returns-in_ok-hear-in-Some-clause-leads : goal.returns-in_ok-hear-in-Some-clause-leads
returns-in_ok-hear-in-Some-clause-leads c =
    let p = c.args.caller in
    let t = attempt_in c.args.simulation.now p in
    let loud : answer_at t.stage ≡ Some c.in-Some.answer = sym (answer_is t c.requires.nothing_due) ∙ ap told_answer (sym c.next.ensures.next) ∙ sym c.answer_in.ensures ∙ c.in-Some.is in
    on_ok_weaker c.speak_on.result
    (λ out. goes_leads p c.args.simulation.now c.args.self.now c.hear.new.self c.in-Some.answer c.requires.expects c.requires.nothing_due loud c.in_ok-hear-in-Some.ensures c.speak_on.new.self out c.requires.caller)
    c.speak_on.ensures

pub returns-in_ok-hear-in-Some-clause-goes : goal.returns-in_ok-hear-in-Some-clause-goes
returns-in_ok-hear-in-Some-clause-goes c =
    let p = c.args.caller in
    let t = attempt_in c.args.simulation.now p in
    let loud : answer_at t.stage ≡ Some c.in-Some.answer = sym (answer_is t c.requires.nothing_due) ∙ ap told_answer (sym c.next.ensures.next) ∙ sym c.answer_in.ensures ∙ c.in-Some.is in
    on_ok_weaker c.speak_on.result
    (λ out. goes_nearer p c.args.simulation.now c.args.self.now c.hear.new.self c.in-Some.answer c.requires.expects c.requires.nothing_due loud c.in_ok-hear-in-Some.ensures c.speak_on.new.self out)
    c.speak_on.ensures

pub returns-in-None-clause-leads : goal.returns-in-None-clause-leads
returns-in-None-clause-leads c =
    let p = c.args.caller in
    let t = attempt_in c.args.simulation.now p in
    let quiet : answer_at t.stage ≡ None = sym (answer_is t c.requires.nothing_due) ∙ ap told_answer (sym c.next.ensures.next) ∙ sym c.answer_in.ensures ∙ c.in-None.is in
    goes_nowhere p c.args.simulation.now c.args.self.now c.requires.caller quiet

pub returns-in-None-clause-rests : goal.returns-in-None-clause-rests
returns-in-None-clause-rests c =
    let p = c.args.caller in
    let t = attempt_in c.args.simulation.now p in
    let quiet : answer_at t.stage ≡ None = sym (answer_is t c.requires.nothing_due) ∙ ap told_answer (sym c.next.ensures.next) ∙ sym c.answer_in.ensures ∙ c.in-None.is in
    record { quiet = quiet; nothing_due = c.requires.nothing_due; expects = c.requires.expects }
