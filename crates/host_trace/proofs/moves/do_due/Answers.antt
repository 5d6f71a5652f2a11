use Rattle.std.proofs.Common.{◌≡◌, ◌<◌, ◌++◌, true, false, Option, ap, sym, ◌∙◌, arith}
use Rattle.stm_core.specs.declared.next.Next.{Next}
use Rattle.stm_core.specs.Machine.{next_of}
use Rattle.world_run.specs.Simulation.{attempt_in, left_of}
use Rattle.world_run.proofs.Seats.{caller_then}
use Rattle.host_trace.specs.Tellings.{tells_due, told_run}
use Rattle.host_trace.proofs.Dues.{due_leads, due_over, due_stays, stays_on}
use Rattle.host_trace.proofs.Leading.{leads_on}
use Rattle.host_trace.proofs.Telling.{due_goes, due_some}
use Rattle.host_trace.proofs.moves.do_due.Goals as goal

pub loop-simulation-preserved : goal.loop-simulation-preserved
loop-simulation-preserved c =
    let here = c.loop-simulation.simulation in
    let t = attempt_in here c.args.caller in
    let caller = c.loop-simulation.invariant.caller in
    let whole = c.next.ensures.invariant in
    let told : tells_due (next_of t) ≡ true = ap tells_due (sym c.next.ensures.next) ∙ sym c.in_ok-note.ensures.due ∙ c.if-branch.true in
    let some = due_some t told in
    let happens = c.in_ok-advance.ensures.happens in
    let runs = c.in_ok-note.ensures.runs ∙ ap (λ (next : Option Next). c.loop-simulation.said.runs.items ++ told_run next) c.next.ensures.next in
    let falls : left_of c.advance.new.self c.args.caller < left_of here c.args.caller = c.in_ok-advance.ensures.falls (due_goes (next_of t) told) in
    record {
      caller = caller_then c.args.caller c.advance.ensures.terms caller;
      leads = leads_on c.loop-simulation.invariant.leads (due_leads c.args.caller caller c.loop-simulation.said c.note.new.self happens c.advance.ensures.same some c.note.ensures.told runs);
      stays = stays_on c.loop-simulation.invariant.stays (due_stays c.args.caller caller whole.world whole.shows happens some);
      left = let before = c.loop-simulation.invariant.left in omega (arith, before, falls);
    }

pub returns-clause-leads : goal.returns-clause-leads
returns-clause-leads c =
    let t = attempt_in c.loop-simulation.simulation c.args.caller in
    let told : tells_due (next_of t) ≡ false = ap tells_due (sym c.next.ensures.next) ∙ sym c.in_ok-note.ensures.due ∙ c.if-branch.false in
    let runs = c.in_ok-note.ensures.runs ∙ ap (λ (next : Option Next). c.loop-simulation.said.runs.items ++ told_run next) c.next.ensures.next in
    due_over c.note.new.self c.requires.caller told c.note.ensures.told runs c.loop-simulation.invariant.leads
