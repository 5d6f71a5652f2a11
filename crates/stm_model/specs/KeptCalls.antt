-- What `KeptCalls` is to its callers.
use Rattle.std.specs.Prelude.{ℕ, Bool, if◌then◌else◌, List, [], Option, Some, None}
use Rattle.stm_model.specs.declared.cause.HookPhase.{HookPhase}

-- the runs and the rings so far, while there was none too many
pub record CallLists : Type 0 where
  pub runs : Option (List (HookPhase × ℕ))
  pub run_room : ℕ
  pub rings : Option (List ℕ)
  pub ring_room : ℕ

-- before the first call
abbrev pub no_calls : ℕ → ℕ → CallLists
no_calls run_room ring_room = record { runs = Some []; run_room = run_room; rings = Some []; ring_room = ring_room }

-- the calls kept, unless there was one too many
abbrev pub told : {T : Type 0} → Bool → List T → Option (List T)
told overrun calls = if overrun then None else Some calls
