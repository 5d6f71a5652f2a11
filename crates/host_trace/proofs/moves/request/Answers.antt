use Rattle.std.proofs.Common.{◌≡◌, ℕ, false, ap, sym, ◌∙◌}
use Rattle.std.proofs.lemmas.Result.{on_ok_weaker}
use Rattle.stm_core.specs.Machine.{next_of}
use Rattle.world_run.specs.Simulation.{attempt_in}
use Rattle.host_trace.specs.Tellings.{tells_memory}
use Rattle.host_trace.proofs.Asking.{request_done, request_leads}
use Rattle.host_trace.proofs.Requests.{askable}
use Rattle.host_trace.proofs.moves.request.Goals as goal

pub returns-clause-leads : goal.returns-clause-leads
returns-clause-leads c =
    let p = c.args.caller in
    let hears = c.requires.hears.1 in
    let t = attempt_in c.args.simulation.now p in
    let asks = c.ask-2.ensures.asked (c.ask-2.ensures.told (askable _ t c.args.ask c.requires.hears.0 hears.hears)) in
    let tells : tells_memory (next_of (attempt_in c.ask-2.new.self p)) ≡ false = ap tells_memory (sym c.next.ensures.next) ∙ sym c.is_out_of_memory.ensures ∙ c.if-is_out_of_memory.false in
    on_ok_weaker c.do_due.result (λ dues. λ (rest : ℕ → _).
    request_leads p c.requires.caller hears.shown c.args.ask hears.hears.nothing_due hears.hears.waits asks tells c.ask-2.ensures.same c.args.said.now c.ask.new.self c.do_due.new.said rest (c.in_ok-ask.ensures.told rest) c.ask.ensures.runs dues) c.do_due.ensures.leads

pub returns-clause-attempt : goal.returns-clause-attempt
returns-clause-attempt c =
    let p = c.args.caller in
    let hears = c.requires.hears.1 in
    let t = attempt_in c.args.simulation.now p in
    let asks = c.ask-2.ensures.asked (c.ask-2.ensures.told (askable _ t c.args.ask c.requires.hears.0 hears.hears)) in
    let tells : tells_memory (next_of (attempt_in c.ask-2.new.self p)) ≡ false = ap tells_memory (sym c.next.ensures.next) ∙ sym c.is_out_of_memory.ensures ∙ c.if-is_out_of_memory.false in
    on_ok_weaker c.do_due.result (λ done. request_done p c.requires.caller hears.shown c.args.ask hears.hears.nothing_due hears.hears.waits asks tells (attempt_in c.do_due.new.simulation p) done) c.do_due.ensures.attempt
