use Rattle.std.proofs.Common.{take}
use Rattle.ledger_model.specs.Traced.{turns}
use Rattle.host_trace.specs.Tracings.{TracesOn}
use Rattle.host_trace.proofs.trace.Tracing.take_steps.Given as goal

abbrev pub invariant-loop-worker : goal.invariant-loop-worker
invariant-loop-worker l = TracesOn l.initial.self l.self (turns l.initial.self.job.now l.initial.self.settings (take l.worker-index l.initial.self.job.now.steps))
