use Rattle.std.proofs.Common.{◌≤◌}
use Rattle.std.specs.List.{AllWithin}
use Rattle.trace_tests.proofs.jobs.are_workers.Given as goal

abbrev pub invariant-loop-step : goal.invariant-loop-step
invariant-loop-step l = AllWithin (λ worker. (1 ≤ worker) × (worker ≤ l.workers)) l.steps 0 l.step-index
