use Rattle.host_trace.specs.Tracings.{GoesOn}
use Rattle.host_trace.proofs.trace.Tracing.finish.Given as goal

abbrev pub invariant-loop : goal.invariant-loop
invariant-loop l = GoesOn l.initial.self l.self
