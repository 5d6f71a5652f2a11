-- A read as a part of an attempt.
use Rattle.std.specs.Prelude.{◌≡◌, ℕ, ◌+◌, ◌*◌, [], ◌∷◌, ◌++◌, Option, Some, None}
use Rattle.stm_model.specs.declared.access.Access.{Access}
use Rattle.stm_model.specs.declared.access.Access.TheVariants.{Load}
use Rattle.op_read.specs.declared.read.ReadEnd.{ReadEnd}
use Rattle.op_read.specs.declared.read.ReadEnd.TheVariants.{Got, NeedExtension, Bad}
use Rattle.op_read.specs.declared.read.ReadOp.{ReadOp}
use Rattle.op_read.specs.declared.read.ReadPlace.{ReadPlace}
use Rattle.op_read.specs.declared.read.ReadPlace.TheVariants as at_read
use Rattle.stm_model.specs.Accesses.{addr_of}
use Rattle.stm_model.specs.After.{at, stopped, answer_with}
use Rattle.stm_model.specs.Attempt.{Attempt, ReadValue, ReadMeta, ExtendClock, Validate}

-- an attempt that has read a cell
abbrev pub got : Attempt → ℕ → ℕ → ℕ → Attempt
got t cell value version = answer_with (record t { notes = t.notes ++ record { addr = addr_of cell; version = version; value = value } ∷ [] }) value

abbrev pub reading_end : Attempt → (cell left : ℕ) → ReadEnd → Attempt
reading_end t cell left (Got value version) = got t cell value version
reading_end t cell left (NeedExtension meta) = at t (ExtendClock cell left meta)
reading_end t cell left (Bad cause) = stopped t cause

abbrev pub reading_at : Attempt → (cell left : ℕ) → ReadPlace → Attempt
reading_at t cell left at_read.ReadMeta = at t (ReadMeta cell left)
reading_at t cell left (at_read.ReadValue first) = at t (ReadValue cell left first)
reading_at t cell left (at_read.Validate first value) = at t (Validate cell left first value)
reading_at t cell left (at_read.Ended end) = reading_end t cell left end

-- the attempt that this one is while the read stands so
abbrev pub reading : ReadOp → Attempt → Attempt
reading op t = reading_at t op.addr.0 op.left op.place

-- The read is made for this attempt.
pub record IsReading (op : ReadOp) (t : Attempt) : Type 0 where
  pub own : t.own ≡ op.own
  pub prefix : t.prefix ≡ op.prefix

abbrev pub ended_at : ReadPlace → Option ReadEnd
ended_at (at_read.Ended end) = Some end
ended_at _ = None

abbrev pub end_of_read : ReadOp → Option ReadEnd
end_of_read op = ended_at op.place

-- It waits for an extension.
abbrev pub IsToExtend : ReadPlace → Type 0
IsToExtend (at_read.Ended (NeedExtension meta)) = Unit {0}
IsToExtend _ = ⊥

-- how many accesses may follow, with so many notes to extend over in each round
abbrev pub left_at : ReadPlace → (left reads : ℕ) → ℕ
left_at at_read.ReadMeta left reads = (left + 1) * (4 + reads)
left_at (at_read.ReadValue first) left reads = left * (4 + reads) + 2
left_at (at_read.Validate first value) left reads = left * (4 + reads) + 1
left_at (at_read.Ended (NeedExtension meta)) left reads = left * (4 + reads) + 3 + reads
left_at (at_read.Ended end) left reads = 0

abbrev pub accesses_left : ReadOp → ℕ → ℕ
accesses_left op reads = left_at op.place op.left reads

-- a load, which changes no word
abbrev pub IsLoad : Access → Type 0
IsLoad (Load word) = Unit {0}
IsLoad _ = ⊥
