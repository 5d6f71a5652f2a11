use Rattle.std.proofs.Common.{ap, ◌∙◌}
use Rattle.world_run.specs.Simulation.{Simulation, attempt_in}
use Rattle.world_run.proofs.Driven.{bodies_fall, replies_late}
use Rattle.world_run.proofs.Going.{attempt_moved, goes_on, lates_on}
use Rattle.world_run.proofs.Seats.{caller_then}
use Rattle.world_run.proofs.simulation.Simulation.go_on.Goals as goal

pub loop-self-init : goal.loop-self-init
loop-self-init g c = record { caller = caller_then c.args.caller c.settle.ensures.goes.leads.terms c.requires.caller; goes = c.settle.ensures.goes; replies = c.in_ok-settle.ensures.replies }

pub settle-requires-in-loop-self-clause-owed : goal.settle-requires-in-loop-self-clause-owed
settle-requires-in-loop-self-clause-owed g c =
    let whole = c.end_late.ensures.invariant c.loop-self-test.true in
    let happens = c.end_late.ensures.ends c.loop-self-test.true in
    let asks = c.requires.owed.0 in
    let goes = goes_on c.loop-self.invariant.goes (lates_on c.args.caller whole.world whole.shows c.loop-self.invariant.caller c.end_late.ensures.same happens) in
    (asks, goes.meets asks c.requires.owed.1)

pub loop-self-smaller : goal.loop-self-smaller
loop-self-smaller g c =
    let whole = c.end_late.ensures.invariant c.loop-self-test.true in
    let happens = c.end_late.ensures.ends c.loop-self-test.true in
    let late = c.end_late.ensures.late c.loop-self-test.true in
    let caller = c.loop-self.invariant.caller in
    let t = attempt_in c.loop-self.self c.args.caller in
    let then = attempt_moved c.args.caller whole.world whole.shows caller happens in
    let driven = c.loop-self.invariant.goes.driven c.requires.driven in
    bodies_fall t (attempt_in c.settle-in-loop-self.new.self c.args.caller) late.waits driven late.late
    (λ next. ap (λ (simulation : Simulation _). attempt_in simulation c.args.caller) (c.settle-in-loop-self.ensures.stays (rw then (replies_late t late.waits next))) ∙ then)
    (λ closing. c.settle-in-loop-self.ensures.goes.closes (rw then closing))

pub loop-self-preserved : goal.loop-self-preserved
loop-self-preserved g c =
    let whole = c.end_late.ensures.invariant c.loop-self-test.true in
    let happens = c.end_late.ensures.ends c.loop-self-test.true in
    let goes = goes_on (goes_on c.loop-self.invariant.goes (lates_on c.args.caller whole.world whole.shows c.loop-self.invariant.caller c.end_late.ensures.same happens)) c.settle-in-loop-self.ensures.goes in
    record { caller = caller_then c.args.caller goes.leads.terms c.requires.caller; goes = goes; replies = c.in_ok-settle-2.ensures.replies }

pub returns-in_err-settle-2-clause-goes : goal.returns-in_err-settle-2-clause-goes
returns-in_err-settle-2-clause-goes g c =
    let whole = c.end_late.ensures.invariant c.loop-self-test.true in
    let happens = c.end_late.ensures.ends c.loop-self-test.true in
    goes_on (goes_on c.loop-self.invariant.goes (lates_on c.args.caller whole.world whole.shows c.loop-self.invariant.caller c.end_late.ensures.same happens)) c.settle-in-loop-self.ensures.goes
