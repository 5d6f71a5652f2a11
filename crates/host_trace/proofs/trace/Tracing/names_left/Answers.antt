use Rattle.std.proofs.Common.{◌≡◌, ◌≤◌, ◌+◌, ℕ, suc, List, ◌++◌, length, ap, sym, ◌∙◌, arith}
use Rattle.ledger_model.specs.Replays.{settled_by}
use Rattle.ledger_model.specs.Traced.{is_flying}
use Rattle.host_trace.specs.Tracings.{parked_so}
use Rattle.ledger_model.proofs.Lists.{neither}
use Rattle.host_trace.proofs.Firsts.{fails_at}
use Rattle.host_trace.proofs.Names.{names_from, names_pass, names_push}
use Rattle.host_trace.proofs.Standing.{works_there}
use Rattle.host_trace.proofs.trace.Tracing.names_left.Goals as goal
use Rattle.host_trace.proofs.trace.Tracing.names_left.Goals.{then-is_left+in_ok-push, else-is_left}

pub is_left-requires-clause-rests : goal.is_left-requires-clause-rests
is_left-requires-clause-rests c = λ s traces.
    let job = c.args.self.now.job.now in
    let within : c.loop-worker.worker ≤ length job.workers = omega (arith, c.requires.stands.traces.workers, c.loop-worker-test.true) in
    fails_at (is_flying s) 1 (length job.workers) c.loop-worker.worker (neither _ _ (c.requires.over s traces)).0 c.loop-worker.auto.worker (omega arith)

pub loop-worker-preserved : goal.loop-worker-preserved
loop-worker-preserved c = λ s traces.
    let job = c.args.self.now.job.now in
    let p = c.loop-worker.worker in
    let within : p ≤ length job.workers = omega (arith, c.requires.stands.traces.workers, c.loop-worker-test.true) in
    let test = parked_so s c.args.parked in
    elim c.if-is_left.branch [
      | then-is_left+in_ok-push w ↦
          let number : w.index.result.now.settled + 1 ≡ suc (settled_by s.rows p) =
          omega (arith, (works_there traces (c.loop-worker.auto.worker, within) w.index.result.now w.index.ensures).lists.settled) in
          ap (λ (names : List (ℕ × ℕ)). names ++ names_from job s test (p + 1)) (w.names-is ∙ w.in_ok-push.ensures.ok)
          ∙ names_push job s test p (w.index.result.now.settled + 1) within (sym (w.if-is_left.ensures s traces)) number c.loop-worker.names ∙ c.loop-worker.invariant s traces
      | else-is_left w ↦
          ap (λ (names : List (ℕ × ℕ)). names ++ names_from job s test (p + 1)) w.names-is
          ∙ names_pass job s test p within (sym (w.if-is_left.ensures s traces)) c.loop-worker.names ∙ c.loop-worker.invariant s traces
    ]
