use Rattle.std.proofs.Common.{◌≡◌, ◌≤◌, length, take}
use Rattle.lifecycle.specs.StageRuns.{left_after}
use Rattle.lifecycle.specs.declared.stage.Stage.TheVariants.{AfterRollback}
use Rattle.stm_model.specs.Handlers.{undoing}
use Rattle.lifecycle.proofs.handlers.last_run.Given as goal

abbrev pub invariant-loop-left : goal.invariant-loop-left
invariant-loop-left l = record {
  within : l.left ≤ length l.hooks;
  same : left_after AfterRollback l.passed l.hooks ≡ undoing (take l.left l.hooks);
}

abbrev pub decreases-loop-left : goal.decreases-loop-left
decreases-loop-left l = l.left
