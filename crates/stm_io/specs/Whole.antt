-- What a reading to the end took, and what a broken writing left.
use Rattle.std.specs.Prelude.{◌≡◌, ◌<◌, ◌≤◌, ℕ, List, length, take}
use Rattle.std.specs.declared.option.Option.{Option}
use Rattle.std.specs.Io.KnownBytes.{Appends, Consumes, IsAtEnd}

-- the most bytes that a text may have
abbrev pub most_bytes : ℕ
most_bytes = 1048576

-- The bytes are all that the source had, and it is at its end.
pub record TookAll (before after : Option (List ℕ)) (bytes : List ℕ) : Type 0 where
  pub taken : Consumes before after bytes
  pub at_end : IsAtEnd after

-- The source gave n bytes.
pub record TookCount (before after : Option (List ℕ)) (n : ℕ) : Type 0 where
  pub bytes : List ℕ
  pub taken : Consumes before after bytes
  pub count : length bytes ≡ n

-- The source gave n bytes or fewer.
pub record TookAtMost (before after : Option (List ℕ)) (n : ℕ) : Type 0 where
  pub bytes : List ℕ
  pub taken : Consumes before after bytes
  pub count : length bytes ≤ n

-- The sink took a front of the bytes that isn't the whole.
pub record AppendedProperFront (before after : Option (List ℕ)) (bytes : List ℕ) : Type 0 where
  pub count : ℕ
  pub proper : count < length bytes
  pub appended : Appends before after (take count bytes)
