-- Which of the registered handlers run at which place, and in which order.
use Rattle.std.specs.Prelude.{ℕ, Bool, true, false, if◌then◌else◌, List, [], ◌++◌, filter, reverse}
use Rattle.stm_model.specs.declared.cause.HookPhase.{HookPhase}
use Rattle.stm_model.specs.declared.cause.HookPhase.TheVariants.{Preparing, Committing, Commit, Rollback, Completion}

-- a phase and a token for each handler
abbrev pub Handlers : Type 0
Handlers = List (HookPhase × ℕ)

abbrev pub is_preparing : HookPhase → Bool
is_preparing Preparing = true
is_preparing _ = false

abbrev pub is_committing : HookPhase → Bool
is_committing Committing = true
is_committing _ = false

-- handlers of these phases run after a commit
abbrev pub is_after_commit : HookPhase → Bool
is_after_commit Commit = true
is_after_commit Completion = true
is_after_commit _ = false

-- handlers of these phases run where something is undone
abbrev pub is_undoing : HookPhase → Bool
is_undoing Rollback = true
is_undoing Completion = true
is_undoing _ = false

-- the handlers of some phases, in order of registration
abbrev pub of_phase : (HookPhase → Bool) → Handlers → Handlers
of_phase is hooks = filter (λ hook. is hook.0) hooks

-- those that run before the decision to commit
abbrev pub preparing : Handlers → Handlers
preparing hooks = of_phase is_preparing hooks

-- those that run after the decision, before the values are stored
abbrev pub committing : Handlers → Handlers
committing hooks = of_phase is_committing hooks

-- those that run after a commit
abbrev pub after_commit : Handlers → Handlers
after_commit hooks = of_phase is_after_commit hooks

-- those that run where these are undone, the last first
abbrev pub undoing : Handlers → Handlers
undoing hooks = reverse (of_phase is_undoing hooks)

-- all that run for a transaction that takes place
abbrev pub completing : Handlers → Handlers
completing hooks = preparing hooks ++ (committing hooks ++ after_commit hooks)

-- all that run for a transaction that is rolled back, after it had begun to prepare or before
abbrev pub failing : Bool → Handlers → Handlers
failing prepared hooks = (if prepared then preparing hooks else []) ++ undoing hooks
