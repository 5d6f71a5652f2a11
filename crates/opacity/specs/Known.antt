-- What a caller knows is no more than it has seen.
use Rattle.std.specs.Prelude.{ℕ, ◌≤◌}
use Rattle.stm_model.specs.Attempt.{Stage, CommitNote, Decide, ExtendNote}
use Rattle.stm_model.specs.World.{View}

-- the clock that was loaded to validate the notes, as long as it is kept, or 0
unfoldable pub clock_at : Stage → ℕ
clock_at (ExtendNote cell left first clock note behind) = clock
clock_at (CommitNote lost clock note behind) = clock
clock_at (Decide lost clock) = clock
clock_at stage = 0

-- The prefix, and a clock that was loaded to validate the notes, count no more entries than the caller has seen.
pub record IsKnown (view : View) : Type 0 where
  pub prefix : view.attempt.prefix ≤ view.seen
  pub clock : clock_at view.attempt.stage ≤ view.seen
