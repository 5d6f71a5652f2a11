use Rattle.std.proofs.Common.{◌≡◌, length}
use Rattle.std.specs.List.{find}
use Rattle.ledger_model.specs.Traced.{Trace, may_begin, workers_of}
use Rattle.host_trace.specs.Tracings.{Traces}
use Rattle.host_trace.proofs.Firsts.{from_on}
use Rattle.host_trace.proofs.trace.Tracing.first_to_begin.Given as goal

abbrev pub invariant-loop-worker : goal.invariant-loop-worker
invariant-loop-worker l =
    (s : Trace) → Traces l.self s
    → find (may_begin l.self.job.now l.self.settings s) (from_on l.worker (length l.self.job.now.workers)) ≡ find (may_begin l.self.job.now l.self.settings s) (workers_of l.self.job.now)
