-- An attempt of a caller to run a transaction: what it has read, written and registered, and where it stands.
use Rattle.std.specs.Prelude.{ℕ, Bool, true, false, not, ◌&&◌, if◌then◌else◌, List, [], ◌∷◌, ◌++◌, Option, Some, None}
use Rattle.meta_word.specs.declared.meta.Meta.{Meta}
use Rattle.meta_word.specs.declared.status.Phase.{Phase}
use Rattle.meta_word.specs.declared.status.Phase.TheVariants.{Idle, Preparing}
use Rattle.meta_word.specs.declared.status.TxnStatus.{TxnStatus}
use Rattle.stm_model.specs.declared.cause.Cause.{Cause}
use Rattle.stm_model.specs.declared.cause.HookPhase.{HookPhase}
use Rattle.stm_model.specs.declared.ending.Ending.{Ending}
use Rattle.stm_model.specs.declared.ending.Ending.TheVariants.{Committed}
use Rattle.stm_model.specs.declared.note.Note.{Note}
use Rattle.stm_model.specs.declared.settings.Settings.{Settings}
use Rattle.stm_model.specs.CellsState.{Book, CellsState, empty_book}
use Rattle.stm_model.specs.Heap.{writes_to}

-- a write: a cell and its new value
abbrev pub Write : Type 0
Write = ℕ × ℕ

-- Where an attempt stands, with the words that it has loaded for what it is doing. `left` counts the rounds that may still follow this one, `tried` says that a doom was tried, and `lost` counts the exchanges of the clock that were lost. Of a list that it goes along, it keeps the entry that is next and those behind it.
pub data Stage : Type 0 where
  -- it begins: its status word is stored, then the clock is loaded
  Announce : Stage
  Begin : Stage
  -- it waits to be asked, and the last ask was answered by a value or by none
  Ready : (told : Option ℕ) → Stage
  -- it has come to a before-commit body, and waits to be asked by it
  Late : (token : ℕ) → Stage
  -- it was refused something and waits to be rolled back
  Stopped : (cause : Cause) → Stage
  -- it reads a cell: it loads the meta word, extends where that is newer than the prefix, loads the value, and validates the meta word
  ReadMeta : (cell left : ℕ) → Stage
  ExtendClock : (cell left : ℕ) → (first : Meta) → Stage
  ExtendNote : (cell left : ℕ) → (first : Meta) → (clock : ℕ) → (note : Note) → (behind : List Note) → Stage
  ReadValue : (cell left : ℕ) → (first : Meta) → Stage
  Validate : (cell left : ℕ) → (first : Meta) → (value : ℕ) → Stage
  -- it acquires a cell that it is to write: it loads the meta word and exchanges it, a second time where only the pending bit came between
  AcquireMeta : (cell value left : ℕ) → (tried : Bool) → Stage
  Acquire : (cell value left : ℕ) → (tried : Bool) → (first expected : Meta) → (again : Bool) → Stage
  -- it loads the status of the cell's owner, validates the cell, and dooms the owner
  OwnerStatus : (cell value left : ℕ) → (first : Meta) → Stage
  OwnerMeta : (cell value left : ℕ) → (first : Meta) → (status : TxnStatus) → Stage
  DoomOwner : (cell value left : ℕ) → (first second : Meta) → (status : TxnStatus) → Stage
  -- it undoes a level: it releases the cells that were first written there, and these writes stay
  ReleaseLevel : (kept : List Write) → (write : Write) → (behind : List Write) → Stage
  -- it commits: it prepares, marks each cell, loads the clock, validates its notes, decides by an exchange of the clock, stores the values, and releases each cell
  Prepare : Stage
  Mark : (write : Write) → (behind : List Write) → Stage
  CommitClock : (lost : ℕ) → Stage
  CommitNote : (lost clock : ℕ) → (note : Note) → (behind : List Note) → Stage
  Decide : (lost clock : ℕ) → Stage
  StoreValues : (write : Write) → (behind : List Write) → Stage
  Release : (write : Write) → (behind : List Write) → Stage
  -- it is rolled back: it releases each cell
  RollBack : (write : Write) → (behind : List Write) → Stage
  -- its status word is stored, and it is over
  Close : Stage
  Ended : Stage

-- what is to be done before the next access: to run a handler, or to ring for a cell
pub data Due : Type 0 where
  Run : (phase : HookPhase) → (token : ℕ) → Due
  Ring : (cell : ℕ) → Due

-- an attempt
pub record Attempt : Type 0 where
  -- the caller's number, and the attempt's number among those of its caller
  pub own : ℕ
  pub serial : ℕ
  pub settings : Settings
  -- the phase that it has stored in its status word; another caller may have doomed it since
  pub phase : Phase
  -- all that it has read is from the heap that so many writers left
  pub prefix : ℕ
  pub notes : List Note
  -- the book now, and as it was where each open level began, the innermost first
  pub now : Book
  pub saved : List Book
  -- how many before-commit bodies it has come to
  pub turn : ℕ
  -- how it ends, once that is certain
  pub ending : Option Ending
  pub due : List Due
  -- the cells that it has rung for
  pub rings : List ℕ
  pub stage : Stage

-- a caller's attempt that is over, before its first one
abbrev pub no_attempt : ℕ → Settings → Attempt
no_attempt own settings = record {
  own = own;
  serial = 0;
  settings = settings;
  phase = Idle;
  prefix = 0;
  notes = [];
  now = empty_book;
  saved = [];
  turn = 0;
  ending = None;
  due = [];
  rings = [];
  stage = Ended;
}

-- An attempt is in flight until it has made its last access.
unfoldable pub flies_at : Stage → Bool
flies_at Ended = false
flies_at _ = true

abbrev pub is_in_flight : Attempt → Bool
is_in_flight attempt = flies_at attempt.stage

-- ---- its stamp

-- the stamp of a writer whose commit is decided, and else 0
abbrev pub stamp_in : Option Ending → ℕ
stamp_in (Some (Committed stamp)) = stamp
stamp_in _ = 0

abbrev pub stamp_of : Attempt → ℕ
stamp_of attempt = stamp_in attempt.ending

-- ---- the cells that it holds, of those that its writes go to

-- those that it owns
unfoldable pub held_at : List Write → Stage → List Write
held_at writes Announce = []
held_at writes Begin = []
held_at writes (ReleaseLevel kept write behind) = kept ++ write ∷ behind
held_at writes (Release write behind) = write ∷ behind
held_at writes (RollBack write behind) = write ∷ behind
held_at writes Close = []
held_at writes Ended = []
held_at writes _ = writes

-- the attempt has begun to prepare
abbrev pub has_prepared : Phase → Bool
has_prepared Preparing = true
has_prepared _ = false

-- those of them that it has not marked as changing
unfoldable pub unmarked_at : Phase → List Write → Stage → List Write
unmarked_at phase writes (ReleaseLevel kept write behind) = kept ++ write ∷ behind
unmarked_at phase writes (Mark write behind) = write ∷ behind
unmarked_at phase writes (CommitClock lost) = []
unmarked_at phase writes (CommitNote lost clock note behind) = []
unmarked_at phase writes (Decide lost clock) = []
unmarked_at phase writes (StoreValues write behind) = []
unmarked_at phase writes (Release write behind) = []
unmarked_at phase writes (RollBack write behind) = if has_prepared phase then [] else write ∷ behind
unmarked_at phase writes _ = writes

-- those whose new value it has still to store, once its commit is decided
unfoldable pub unstored_at : Stage → List Write
unstored_at (StoreValues write behind) = write ∷ behind
unstored_at _ = []

-- whether it owns a cell
abbrev pub holds : Attempt → ℕ → Bool
holds attempt cell = writes_to (held_at attempt.now.writes attempt.stage) cell

-- whether it has marked a cell that it owns
abbrev pub marks : Attempt → ℕ → Bool
marks attempt cell = holds attempt cell && not (writes_to (unmarked_at attempt.phase attempt.now.writes attempt.stage) cell)

-- ---- what it is to a body

-- the cause that it was refused with
unfoldable pub cause_at : Stage → Option Cause
cause_at (Stopped cause) = Some cause
cause_at _ = None

-- what the cells of an attempt tell, of so many cells
abbrev pub cells_of : ℕ → Attempt → CellsState
cells_of size attempt = record { size = size; reads = attempt.notes; now = attempt.now; saved = attempt.saved; cause = cause_at attempt.stage }
