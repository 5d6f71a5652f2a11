-- How a script is settled after so many committed writers, and which handlers run.
use Rattle.std.specs.Prelude.{ℕ, true, false, nat_lt, if◌then◌else◌, List, [], ◌++◌}
use Rattle.stm_model.specs.declared.cause.HookPhase.{HookPhase}
use Rattle.stm_model.specs.Handlers.{completing, failing}
use Rattle.ledger_model.specs.Run.{Kept, Failed, Retried, State, Outcome}

-- what becomes of a script
pub data Settled : Type 0 where
  Commits : Settled
  OnlyReads : Settled
  Spends : Settled
  Fails : (code : ℕ) → Settled
  Retries : Settled

-- A script that writes commits, unless the number of writers is the clock's limit.
abbrev pub settle : Outcome → ℕ → ℕ → Settled
settle o writers limit =
    elim o.end [
      | Kept ↦ if o.after.wrote then (if nat_lt writers limit then Commits else Spends) else OnlyReads
      | Failed code ↦ Fails code
      | Retried ↦ Retries
    ]

-- The handlers that run, those at undone blocks first. Those of a script that retries are never looked at.
abbrev pub handler_runs : Settled → State → List (HookPhase × ℕ)
handler_runs Commits s = s.runs ++ completing s.hooks
handler_runs OnlyReads s = s.runs ++ completing s.hooks
handler_runs Spends s = s.runs ++ failing true s.hooks
handler_runs (Fails code) s = s.runs ++ failing false s.hooks
handler_runs Retries s = []
