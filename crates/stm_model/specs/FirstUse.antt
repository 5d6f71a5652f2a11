-- First reads and first writes of a cell: which attempts are within one, and what an access makes of them. Here t is an attempt.
use Rattle.std.specs.Prelude.{◌≡◌, ℕ, false, List, ◌∷◌, ◌++◌, Some, None}
use Rattle.stm_model.specs.declared.cause.Cause.{Cause}
use Rattle.stm_model.specs.declared.note.Note.{Note}
use Rattle.stm_model.specs.Attempt.{Attempt, Stage, Ready, Stopped, ReadMeta, ExtendClock, ExtendNote, ReadValue, Validate, AcquireMeta, Acquire, OwnerStatus, OwnerMeta, DoomOwner, cells_of}
use Rattle.stm_model.specs.CellsState.{CellsState, written}
use Rattle.stm_model.specs.Heap.{writes_to}
use Rattle.stm_model.specs.Refusing.{IsAway, RefusesRead, RefusesWrite}
use Rattle.stm_model.specs.Telling.{Does, Got, Refused}

-- This note and those behind it are the last of these.
abbrev pub AreLast : List Note → Note → List Note → Type 0
AreLast notes note behind = (front : List Note) × (notes ≡ front ++ note ∷ behind)

-- ---- a first read

-- It stands within a read of this cell.
unfoldable pub ReadsAt : List Note → ℕ → Stage → Type 0
ReadsAt notes address (ReadMeta cell left) = cell ≡ address
ReadsAt notes address (ExtendClock cell left first) = cell ≡ address
ReadsAt notes address (ExtendNote cell left first clock note behind) = (cell ≡ address) × AreLast notes note behind
ReadsAt notes address (ReadValue cell left first) = cell ≡ address
ReadsAt notes address (Validate cell left first value) = cell ≡ address
ReadsAt notes address _ = ⊥

-- It is reading this cell for the first time.
pub record Reads (address : ℕ) (t : Attempt) : Type 0 where
  pub stands : ReadsAt t.notes address t.stage
  pub away : (size : ℕ) → IsAway address (cells_of size t)

-- What an access makes of who is reading a cell for the first time: the read goes on and the cells are as before, or it told a value, or it was refused.
pub data ReadOn (lawful : List ℕ → Type 0) (size address : ℕ) (before : CellsState) (after : Attempt) : Type 0 where
  goes_on : Reads address after → cells_of size after ≡ before → ReadOn lawful size address before after
  told : (value : ℕ) → after.stage ≡ Ready (Some value) → Got lawful address value before (cells_of size after) → ReadOn lawful size address before after
  refused : (cause : Cause) → after.stage ≡ Stopped cause → Refused (RefusesRead before address) cause before (cells_of size after) → ReadOn lawful size address before after

-- ---- a first write

-- It stands within a write of this value to this cell.
unfoldable pub WritesAt : (address word : ℕ) → Stage → Type 0
WritesAt address word (AcquireMeta cell value left tried) = (cell ≡ address) × (value ≡ word)
WritesAt address word (Acquire cell value left tried first expected again) = (cell ≡ address) × (value ≡ word)
WritesAt address word (OwnerStatus cell value left first) = (cell ≡ address) × (value ≡ word)
WritesAt address word (OwnerMeta cell value left first status) = (cell ≡ address) × (value ≡ word)
WritesAt address word (DoomOwner cell value left first second status) = (cell ≡ address) × (value ≡ word)
WritesAt address word _ = ⊥

-- It is writing this value to this cell for the first time.
pub record Writes (address word : ℕ) (t : Attempt) : Type 0 where
  pub stands : WritesAt address word t.stage
  pub unwritten : writes_to t.now.writes address ≡ false

-- What an access makes of who is writing a cell for the first time: the write goes on and the cells are as before, or it is done, or it was refused.
pub data WriteOn (size address word : ℕ) (before : CellsState) (after : Attempt) : Type 0 where
  goes_on : Writes address word after → cells_of size after ≡ before → WriteOn size address word before after
  done : after.stage ≡ Ready None → Does (written address word) before (cells_of size after) → WriteOn size address word before after
  refused : (cause : Cause) → after.stage ≡ Stopped cause → Refused (RefusesWrite before address) cause before (cells_of size after) → WriteOn size address word before after
