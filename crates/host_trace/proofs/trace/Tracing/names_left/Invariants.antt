use Rattle.std.proofs.Common.{◌≡◌, ◌++◌}
use Rattle.ledger_model.specs.Traced.{Trace, left_where}
use Rattle.host_trace.specs.Tracings.{Traces, parked_so}
use Rattle.host_trace.proofs.Names.{names_from}
use Rattle.host_trace.proofs.trace.Tracing.names_left.Given as goal

abbrev pub invariant-loop-worker : goal.invariant-loop-worker
invariant-loop-worker l =
    (s : Trace) → Traces l.self s → l.names ++ names_from l.self.job.now s (parked_so s l.parked) l.worker ≡ left_where l.self.job.now s (parked_so s l.parked)
