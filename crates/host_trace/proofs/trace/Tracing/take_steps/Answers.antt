use Rattle.std.proofs.Common.{ℕ, List, get_or, ap}
use Rattle.host_trace.proofs.Onward.{steps_more}
use Rattle.host_trace.proofs.trace.Tracing.take_steps.Goals as goal

pub loop-worker-preserved : goal.loop-worker-preserved
loop-worker-preserved c =
    let k = c.loop-worker.worker-index in
    steps_more c.args.self.now.job.now.steps k (get_or c.as_slice-worker-items.result.now k 0) (rw (← c.as_slice-worker-items.ensures) c.loop-worker-test.true)
    (ap (λ (list : List ℕ). get_or list k 0) c.as_slice-worker-items.ensures) c.loop-worker.invariant c.in_ok-turn.ensures
