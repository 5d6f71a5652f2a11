use Rattle.std.proofs.lemmas.Result.{on_ok_weaker}
use Rattle.world_run.specs.Simulation.{attempt_in}
use Rattle.host_trace.proofs.Asking.{ends_done, ends_leads}
use Rattle.host_trace.proofs.Requests.{ends_late}
use Rattle.host_trace.proofs.moves.end_late.Goals as goal

pub returns-clause-leads : goal.returns-clause-leads
returns-clause-leads c =
    let p = c.args.caller in
    let hears = c.requires.hears.1 in
    let ends = c.end_late.ensures.ends (c.end_late.ensures.told (ends_late _ (attempt_in c.args.simulation.now p) c.requires.hears.0 hears.hears)) in
    on_ok_weaker c.do_due.result (λ dues. λ rest. ends_leads p c.requires.caller hears.shown hears.hears.waits ends c.end_late.ensures.same c.args.said.now c.do_due.new.said rest dues) c.do_due.ensures.leads

pub returns-clause-attempt : goal.returns-clause-attempt
returns-clause-attempt c =
    let p = c.args.caller in
    let hears = c.requires.hears.1 in
    let ends = c.end_late.ensures.ends (c.end_late.ensures.told (ends_late _ (attempt_in c.args.simulation.now p) c.requires.hears.0 hears.hears)) in
    on_ok_weaker c.do_due.result (λ done. ends_done p c.requires.caller hears.shown hears.hears.waits ends (attempt_in c.do_due.new.simulation p) done) c.do_due.ensures.attempt
