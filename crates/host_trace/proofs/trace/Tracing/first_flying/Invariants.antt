use Rattle.std.proofs.Common.{◌≡◌, length}
use Rattle.std.specs.List.{find}
use Rattle.ledger_model.specs.Traced.{Trace, is_flying, workers_of}
use Rattle.host_trace.specs.Tracings.{Traces}
use Rattle.host_trace.proofs.Firsts.{from_on}
use Rattle.host_trace.proofs.trace.Tracing.first_flying.Given as goal

abbrev pub invariant-loop-worker : goal.invariant-loop-worker
invariant-loop-worker l =
    (s : Trace) → Traces l.self s → find (is_flying s) (from_on l.worker (length l.self.job.now.workers)) ≡ find (is_flying s) (workers_of l.self.job.now)
