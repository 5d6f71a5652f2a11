use Rattle.std.proofs.Common.{◌≤◌, length, sym, ◌∙◌, arith}
use Rattle.ledger_model.specs.Traced.{is_flying}
use Rattle.host_trace.proofs.Firsts.{first_here, first_later}
use Rattle.host_trace.proofs.trace.Tracing.first_flying.Goals as goal

pub returns-then-is_flying-clause-told : goal.returns-then-is_flying-clause-told
returns-then-is_flying-clause-told c = λ s traces.
    let within : c.loop-worker.worker ≤ length c.args.self.now.job.now.workers = omega (arith, c.requires.traces.workers, c.loop-worker-test.true) in
    first_here (is_flying s) c.loop-worker.worker (length c.args.self.now.job.now.workers) within (sym (c.if-is_flying.ensures s traces)) ∙ c.loop-worker.invariant s traces

pub loop-worker-preserved : goal.loop-worker-preserved
loop-worker-preserved c = λ s traces.
    let within : c.loop-worker.worker ≤ length c.args.self.now.job.now.workers = omega (arith, c.requires.traces.workers, c.loop-worker-test.true) in
    sym (first_later (is_flying s) c.loop-worker.worker (length c.args.self.now.job.now.workers) within (sym (c.if-is_flying.ensures s traces))) ∙ c.loop-worker.invariant s traces
