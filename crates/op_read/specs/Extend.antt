-- An extension as a part of an attempt that reads a cell.
use Rattle.std.specs.Prelude.{◌≡◌, ℕ, ◌+◌, ◌-◌, ◌<◌, List, length, drop, Option, Some, None}
use Rattle.meta_word.specs.declared.meta.Meta.{Meta}
use Rattle.op_read.specs.declared.extend.ExtendEnd.{ExtendEnd}
use Rattle.op_read.specs.declared.extend.ExtendEnd.TheVariants.{Prefix, Bad}
use Rattle.op_read.specs.declared.extend.ExtendOp.{ExtendOp}
use Rattle.op_read.specs.declared.extend.ExtendPlace.{ExtendPlace}
use Rattle.op_read.specs.declared.extend.ExtendPlace.TheVariants as at_extend
use Rattle.stm_model.specs.declared.note.Note.{Note}
use Rattle.stm_model.specs.After.{at, extend_on, stopped}
use Rattle.stm_model.specs.Attempt.{Attempt, ReadValue, ExtendClock}

-- the attempt that this one is while the extension stands so, for a read of a cell
abbrev pub extending_at : ExtendPlace → (cell left : ℕ) → Meta → Attempt → Attempt
extending_at at_extend.ExtendClock cell left first t = at t (ExtendClock cell left first)
extending_at (at_extend.ExtendNote clock index) cell left first t = extend_on t cell left first clock (drop index t.notes)
extending_at (at_extend.Ended (Prefix clock)) cell left first t = at (record t { prefix = clock }) (ReadValue cell left first)
extending_at (at_extend.Ended (Bad cause)) cell left first t = stopped t cause

abbrev pub extending : ExtendOp → (cell left : ℕ) → Meta → Attempt → Attempt
extending op = extending_at op.place

-- The extension is made for this attempt.
pub record IsExtending (op : ExtendOp) (t : Attempt) : Type 0 where
  pub own : t.own ≡ op.own

-- It stands at one of the notes, if at any.
abbrev pub IsAlongAt : ExtendPlace → List Note → Type 0
IsAlongAt (at_extend.ExtendNote clock index) notes = index < length notes
IsAlongAt _ notes = Unit {0}

abbrev pub IsAlong : ExtendOp → List Note → Type 0
IsAlong op = IsAlongAt op.place

abbrev pub end_at : ExtendPlace → Option ExtendEnd
end_at (at_extend.Ended end) = Some end
end_at _ = None

abbrev pub end_of_extension : ExtendOp → Option ExtendEnd
end_of_extension op = end_at op.place

-- how many accesses follow at most, over so many notes
abbrev pub accesses_left_at : ExtendPlace → ℕ → ℕ
accesses_left_at at_extend.ExtendClock reads = 1 + reads
accesses_left_at (at_extend.ExtendNote clock index) reads = reads - index
accesses_left_at (at_extend.Ended end) reads = 0

abbrev pub accesses_left : ExtendOp → ℕ → ℕ
accesses_left op = accesses_left_at op.place
