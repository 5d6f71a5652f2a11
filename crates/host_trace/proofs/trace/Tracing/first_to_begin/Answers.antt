use Rattle.std.proofs.Common.{◌≤◌, length, sym, ◌∙◌, arith}
use Rattle.ledger_model.specs.Traced.{is_flying, may_begin}
use Rattle.host_trace.proofs.Firsts.{fails_at, first_here, first_later}
use Rattle.host_trace.proofs.trace.Tracing.first_to_begin.Goals as goal

pub may_begin-requires-clause-rests : goal.may_begin-requires-clause-rests
may_begin-requires-clause-rests c = λ s traces.
    let within : c.loop-worker.worker ≤ length c.args.self.now.job.now.workers = omega (arith, c.requires.stands.traces.workers, c.loop-worker-test.true) in
    fails_at (is_flying s) 1 (length c.args.self.now.job.now.workers) c.loop-worker.worker (c.requires.rests s traces) c.loop-worker.auto.worker (omega arith)

pub returns-then-may_begin-clause-told : goal.returns-then-may_begin-clause-told
returns-then-may_begin-clause-told c = λ s traces.
    let job = c.args.self.now.job.now in
    let within : c.loop-worker.worker ≤ length job.workers = omega (arith, c.requires.stands.traces.workers, c.loop-worker-test.true) in
    first_here (may_begin job c.args.self.now.settings s) c.loop-worker.worker (length job.workers) within (sym (c.if-may_begin.ensures s traces)) ∙ c.loop-worker.invariant s traces

pub loop-worker-preserved : goal.loop-worker-preserved
loop-worker-preserved c = λ s traces.
    let job = c.args.self.now.job.now in
    let within : c.loop-worker.worker ≤ length job.workers = omega (arith, c.requires.stands.traces.workers, c.loop-worker-test.true) in
    sym (first_later (may_begin job c.args.self.now.settings s) c.loop-worker.worker (length job.workers) within (sym (c.if-may_begin.ensures s traces))) ∙ c.loop-worker.invariant s traces
