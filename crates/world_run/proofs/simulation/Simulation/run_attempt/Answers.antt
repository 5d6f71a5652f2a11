use Rattle.std.proofs.Common.{refl}
use Rattle.world_run.proofs.Bodies.{closes_then}
use Rattle.world_run.proofs.Ran.{begun_driven, begun_meets, has_ended, if_ok_some, runs}
use Rattle.world_run.proofs.simulation.Simulation.run_attempt.Goals as goal

pub run_body-requires-clause-owed : goal.run_body-requires-clause-owed
run_body-requires-clause-owed g c =
    let began = c.if-not-begin.ensures in
    begun_meets (began.invariant refl) c.args.caller c.requires.caller (began.begins refl) _ c.requires.owed (closes_then 0 c.args.asks.now c.requires.levels)

pub run_body-requires-clause-driven : goal.run_body-requires-clause-driven
run_body-requires-clause-driven g c =
    let began = c.if-not-begin.ensures in
    begun_driven (began.invariant refl) c.args.caller c.requires.caller (began.begins refl)

pub returns-clause-runs : goal.returns-clause-runs
returns-clause-runs g c =
    let began = c.if-not-begin.ensures in
    runs (began.invariant refl) c.args.caller c.requires.caller (began.begins refl) c.run_body.ensures.body

pub returns-clause-ends : goal.returns-clause-ends
returns-clause-ends g c =
    let began = c.if-not-begin.ensures in
    if_ok_some c.run_body.result c.run_body.ensures.ends c.run_body.ensures.over
    (λ over ending ends. has_ended (began.invariant refl) c.args.caller c.requires.caller (began.begins refl) c.run_body.ensures.body over ending ends)
