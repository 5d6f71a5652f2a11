-- What a source over memory is, and what a call makes of it.
use Rattle.std.specs.Prelude.{ℕ, List, Contains, drop, length, min}
use Rattle.stm_io.specs.Faults.{next_count}

-- the bytes left, the most that a call moves, the numbers of the calls that fail,
-- and how many calls and faults there were
pub record SourceState : Type 0 where
  pub left : List ℕ
  pub at_most : ℕ
  pub failing : List ℕ
  pub calls : ℕ
  pub faults : ℕ

-- a source before its first call
abbrev pub first_state : List ℕ → ℕ → List ℕ → SourceState
first_state bytes at_most failing =
    record { left = bytes; at_most = at_most; failing = failing; calls = 0; faults = 0 }

-- The next call is a listed one.
abbrev pub FailsNext : SourceState → Type 0
FailsNext s = Contains s.failing (next_count s.calls)

-- how many bytes a call moves into a slice of this length
abbrev pub moved_count : SourceState → ℕ → ℕ
moved_count s asked = min asked (min s.at_most (length s.left))

-- the source after a call that moved n bytes
abbrev pub after_read : SourceState → ℕ → SourceState
after_read s n = record s { left = drop n s.left; calls = next_count s.calls }

-- the source after a call that failed
abbrev pub after_fault : SourceState → SourceState
after_fault s = record s { calls = next_count s.calls; faults = next_count s.faults }
