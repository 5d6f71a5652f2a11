-- Buffered cells as notes, and rings that come due.
use Rattle.std.specs.Prelude.{List, [], ◌∷◌, map, Option, Some, None}
use Rattle.stm_model.specs.declared.cause.Addr.{Addr}
use Rattle.stm_model.specs.declared.note.Note.{Note}
use Rattle.stm_model.specs.Accesses.{addr_of}
use Rattle.stm_model.specs.Attempt.{Due, Ring, Write}

-- a buffered cell: it has the version 0 and its new value
abbrev pub note_of_write : Write → Note
note_of_write write = record { addr = addr_of write.0; version = 0; value = write.1 }

-- the buffered cells in order
abbrev pub buffered : List Write → List Note
buffered writes = map note_of_write writes

-- The cell whose pending bit was found is to be rung for.
abbrev pub ring_for : Option Addr → List Due
ring_for None = []
ring_for (Some addr) = Ring addr.0 ∷ []
