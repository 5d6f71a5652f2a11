use Rattle.host_trace.proofs.Onward.{goes_more, goes_none, tracing_then}
use Rattle.host_trace.proofs.trace.Tracing.finish.Goals as goal

pub loop-init : goal.loop-init
loop-init c = goes_none

pub whose-requires : goal.whose-requires
whose-requires c = tracing_then c.requires c.loop.invariant

pub turn-requires-clause-stands : goal.turn-requires-clause-stands
turn-requires-clause-stands c = tracing_then c.requires c.loop.invariant

pub loop-preserved : goal.loop-preserved
loop-preserved c = goes_more c.loop.invariant c.in-Some.worker c.in_ok-turn-in-Some.ensures c.in-Some.ensures.told
