-- Private: what the laws of an attempt's local moves rest on.
use Rattle.std.specs.Prelude.{◌≡◌, ◌^◌, ◌<◌, IsFalse, None}
use Rattle.std.specs.List.{All}
use Rattle.std.specs.Map.{values_of}
use Rattle.stm_model.specs.Attempt.{Attempt, cause_at, has_prepared}
use Rattle.stm_model.specs.Heap.{AreWords}
use Rattle.stm_model.specs.Moves.{AwaitsAsk}

-- The attempt waits to be asked and wasn't refused anything, hasn't begun to prepare, and what it has noted and written are words.
pub record Listens (t : Attempt) : Type 0 where
  pub waits : AwaitsAsk t
  pub going : cause_at t.stage ≡ None
  pub unprepared : IsFalse (has_prepared t.phase)
  pub notes : All (λ note. note.value < 2 ^ 64) t.notes
  pub writes : AreWords (values_of t.now.writes)
