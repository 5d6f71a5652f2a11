-- What a sink over memory is, and what a call makes of it.
use Rattle.std.specs.Prelude.{◌⊎◌, ◌++◌, ◌-◌, ◌<◌, ◌≤◌, ℕ, List, [], Contains, length, min}
use Rattle.stm_io.specs.Faults.{next_count}

-- the bytes held, how many may be, the most that a call takes, the numbers of the calls that fail,
-- and how many calls and faults there were
pub record SinkState : Type 0 where
  pub held : List ℕ
  pub room : ℕ
  pub at_most : ℕ
  pub failing : List ℕ
  pub calls : ℕ
  pub faults : ℕ

-- a sink before its first call
abbrev pub first_state : ℕ → ℕ → List ℕ → SinkState
first_state room at_most failing =
    record { held = []; room = room; at_most = at_most; failing = failing; calls = 0; faults = 0 }

-- The next call is a listed one, or its piece isn't empty and the room is used up.
abbrev pub FailsNext : SinkState → List ℕ → Type 0
FailsNext s bytes =
    Contains s.failing (next_count s.calls) ⊎ ((0 < length bytes) × (s.room ≤ length s.held))

-- how many bytes a call takes of a piece of this length
abbrev pub taken_count : SinkState → ℕ → ℕ
taken_count s offered = min offered (min s.at_most (s.room - length s.held))

-- the sink after a call that took these bytes
abbrev pub after_write : SinkState → List ℕ → SinkState
after_write s bytes = record s { held = s.held ++ bytes; calls = next_count s.calls }

-- the sink after a call that failed
abbrev pub after_fault : SinkState → SinkState
after_fault s = record s { calls = next_count s.calls; faults = next_count s.faults }
