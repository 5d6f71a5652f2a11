-- The wait for a change of what was read.
use Rattle.std.specs.Prelude.{ℕ, ◌-◌, ◌<◌, List, length, drop, Option, Some, None}
use Rattle.op_commit.specs.declared.register.RegisterOp.{RegisterOp}
use Rattle.op_commit.specs.declared.register.RegisterPlace.{RegisterPlace}
use Rattle.op_commit.specs.declared.register.RegisterPlace.TheVariants as at_register
use Rattle.op_commit.specs.declared.register.WatchEnd.{WatchEnd}
use Rattle.op_commit.specs.declared.register.WatchEnd.TheVariants as found
use Rattle.stm_model.specs.declared.note.Note.{Note}
use Rattle.stm_model.specs.Waiting.{SawChange, Waiting, Watching, watch}

abbrev pub registering_at : RegisterPlace → List Note → Waiting
registering_at (at_register.Note index) notes = watch (drop index notes)
registering_at at_register.Watching notes = Watching
registering_at (at_register.Changed note meta) notes = SawChange note meta

-- where a caller stands that waits for a change of these
abbrev pub registering : RegisterOp → List Note → Waiting
registering op = registering_at op.place

-- It stands at one of the notes, if at any.
abbrev pub IsAlongAt : RegisterPlace → List Note → Type 0
IsAlongAt (at_register.Note index) notes = index < length notes
IsAlongAt place notes = Unit {0}

abbrev pub IsAlong : RegisterOp → List Note → Type 0
IsAlong op = IsAlongAt op.place

abbrev pub end_at : RegisterPlace → Option WatchEnd
end_at (at_register.Note index) = None
end_at at_register.Watching = Some found.Watching
end_at (at_register.Changed note meta) = Some (found.Changed note.addr note.version meta)

abbrev pub end_of_register : RegisterOp → Option WatchEnd
end_of_register op = end_at op.place

-- how many accesses may follow, over so many notes
abbrev pub left_at : RegisterPlace → (reads : ℕ) → ℕ
left_at (at_register.Note index) reads = reads - index
left_at place reads = 0

abbrev pub accesses_left : RegisterOp → (reads : ℕ) → ℕ
accesses_left op = left_at op.place
