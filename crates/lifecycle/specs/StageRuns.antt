-- Which handlers run at a stage, and which of these runs are left.
use Rattle.std.specs.Prelude.{ℕ, ◌-◌, Bool, length, drop, take}
use Rattle.lifecycle.specs.declared.cursor.Cursor.{Cursor}
use Rattle.lifecycle.specs.declared.stage.Stage.{Stage}
use Rattle.lifecycle.specs.declared.stage.Stage.TheVariants.{Preparing, Committing, AfterCommit, AfterRollback}
use Rattle.stm_model.specs.declared.cause.HookPhase.{HookPhase}
use Rattle.stm_model.specs.Handlers.{Handlers, after_commit, committing, is_after_commit, is_committing, is_preparing, is_undoing, preparing, undoing}

-- whether a handler of this phase runs at the stage
abbrev pub runs_at : Stage → HookPhase → Bool
runs_at Preparing phase = is_preparing phase
runs_at Committing phase = is_committing phase
runs_at AfterCommit phase = is_after_commit phase
runs_at AfterRollback phase = is_undoing phase

-- the handlers that run at a stage, in the order in which they run
abbrev pub stage_runs : Stage → Handlers → Handlers
stage_runs Preparing hooks = preparing hooks
stage_runs Committing hooks = committing hooks
stage_runs AfterCommit hooks = after_commit hooks
stage_runs AfterRollback hooks = undoing hooks

-- those left where so many registrations are passed, in order of registration, or the last first where something is undone
unfoldable pub left_after : Stage → ℕ → Handlers → Handlers
left_after AfterRollback passed hooks = undoing (take (length hooks - passed) hooks)
left_after stage passed hooks = stage_runs stage (drop passed hooks)

-- the runs that a cursor has still to come to
abbrev pub runs_left : Cursor → Handlers → Handlers
runs_left cursor hooks = left_after cursor.stage cursor.passed (drop cursor.from hooks)
