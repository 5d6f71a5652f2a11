use Rattle.std.proofs.Common.{◌≡◌, drop}
use Rattle.lifecycle.specs.StageRuns.{runs_left, stage_runs}
use Rattle.lifecycle.proofs.handlers.Handlers.run_at.Given as goal

abbrev pub invariant-loop-skipped : goal.invariant-loop-skipped
invariant-loop-skipped l = drop l._skipped (stage_runs l.fn.stage (drop l.from l.self.hooks)) ≡ runs_left l.cursor l.self.hooks
