use Rattle.std.proofs.Common.{◌≡◌}
use Rattle.lifecycle.specs.StageRuns.{left_after}
use Rattle.lifecycle.proofs.handlers.first_run.Given as goal

abbrev pub invariant-loop-index : goal.invariant-loop-index
invariant-loop-index l = left_after l.stage l.passed l.hooks ≡ left_after l.stage l.index l.hooks
