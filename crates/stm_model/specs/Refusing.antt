-- With which causes cells refuse a call.
use Rattle.std.specs.Prelude.{◌≡◌, ◌≢◌, ℕ, ◌<◌, ◌≤◌, ◌⊎◌, false, List}
use Rattle.std.specs.List.{All, Any}
use Rattle.stm_model.specs.declared.cause.Addr.{Addr}
use Rattle.stm_model.specs.declared.cause.Cause.{Cause}
use Rattle.stm_model.specs.declared.cause.Cause.TheVariants.{ReadConflict, Moved, Stale, WriteConflict, TooDeep, Retry, User, Full, Memory}
use Rattle.stm_model.specs.declared.marks.TheConstants.{DEEPEST}
use Rattle.stm_model.specs.declared.note.Note.{Note}
use Rattle.stm_model.specs.CellsState.{CellsState}
use Rattle.stm_model.specs.Heap.{writes_to}

-- How deep levels nest.
abbrev pub deepest : ℕ
deepest = DEEPEST

-- As many levels are open as may be.
abbrev pub IsTooDeep : ℕ → Type 0
IsTooDeep depth = depth ≡ deepest

-- All blocks are in use.
abbrev pub IsFull : (used blocks : ℕ) → Type 0
IsFull used blocks = used ≡ blocks

-- The causes that a body answers of its own.
abbrev pub IsOfBody : Cause → Type 0
IsOfBody Retry = Unit {0}
IsOfBody (User code) = Unit {0}
IsOfBody (Full used blocks) = IsFull used blocks
IsOfBody Memory = Unit {0}
IsOfBody _ = ⊥

-- The causes that cells answer. All others come from a body or from the end of an attempt.
abbrev pub IsOfCells : Cause → Type 0
IsOfCells (ReadConflict cell meta) = Unit {0}
IsOfCells (Moved cell first second) = Unit {0}
IsOfCells (Stale cell version meta) = Unit {0}
IsOfCells (WriteConflict cell meta) = Unit {0}
IsOfCells (TooDeep depth) = IsTooDeep depth
IsOfCells Memory = Unit {0}
IsOfCells _ = ⊥

-- One of the notes is of this cell, at this version.
abbrev pub NotesVersion : List Note → Addr → ℕ → Type 0
NotesVersion reads cell version = Any (λ note. (note.addr ≡ cell) × (note.version ≡ version)) reads

-- The cell is neither written nor noted.
pub record IsAway (address : ℕ) (state : CellsState) : Type 0 where
  pub unwritten : writes_to state.now.writes address ≡ false
  pub unnoted : All (λ note. note.addr.0 ≢ address) state.reads

-- the causes of a read of this cell: another changes it or has changed it meanwhile, or one of the notes is stale
abbrev pub IsOfRead : List Note → ℕ → Cause → Type 0
IsOfRead reads address (ReadConflict cell meta) = cell.0 ≡ address
IsOfRead reads address (Moved cell first second) = cell.0 ≡ address
IsOfRead reads address (Stale cell version meta) = NotesVersion reads cell version
IsOfRead reads address Memory = Unit {0}
IsOfRead reads address _ = ⊥

-- A read of a cell is refused with one of these causes, and only where it is neither written nor noted.
pub record RefusesRead (state : CellsState) (address : ℕ) (cause : Cause) : Type 0 where
  pub away : IsAway address state
  pub is : IsOfRead state.reads address cause

-- the causes of a first write of this cell: another owns it or has changed it meanwhile, or its own note is stale
abbrev pub IsOfWrite : List Note → ℕ → Cause → Type 0
IsOfWrite reads address (WriteConflict cell meta) = cell.0 ≡ address
IsOfWrite reads address (Moved cell first second) = cell.0 ≡ address
IsOfWrite reads address (Stale cell version meta) = (cell.0 ≡ address) × NotesVersion reads cell version
IsOfWrite reads address _ = ⊥

-- A write of a cell is refused with one of these causes, and only where it is not written yet, or where memory is out.
abbrev pub RefusesWrite : CellsState → ℕ → Cause → Type 0
RefusesWrite state address cause =
    ((writes_to state.now.writes address ≡ false) × IsOfWrite state.reads address cause) ⊎ (cause ≡ Memory)

-- A level is refused for its depth exactly where so many are open that no further one may be.
abbrev pub RefusesLevel : ℕ → Cause → Type 0
RefusesLevel open_levels cause =
    ((deepest ≤ open_levels) × (cause ≡ TooDeep deepest)) ⊎ ((open_levels < deepest) × (cause ≡ Memory))

-- The registration of a handler or of a before-commit body is refused where memory is out, and else never.
abbrev pub RefusesRegistration : Cause → Type 0
RefusesRegistration cause = cause ≡ Memory
