-- Private: one step of a walk along the runs of a stage.
use Rattle.std.specs.Prelude.{◌≡◌, ℕ, [], ◌∷◌, Option, None, Some}
use Rattle.lifecycle.specs.StageRuns.{left_after}
use Rattle.lifecycle.specs.declared.stage.Stage.{Stage}
use Rattle.stm_model.specs.declared.cause.HookPhase.{HookPhase}
use Rattle.stm_model.specs.Handlers.{Handlers}

-- This is the first run that is left, with how many registrations are passed behind it, or none is left.
abbrev pub IsNextRun : Stage → ℕ → Handlers → Option (HookPhase × ℕ × ℕ) → Type 0
IsNextRun stage passed hooks None = left_after stage passed hooks ≡ []
IsNextRun stage passed hooks (Some run) = left_after stage passed hooks ≡ (run.0, run.1) ∷ left_after stage run.2 hooks
