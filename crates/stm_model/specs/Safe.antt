-- What holds at every moment, whatever the order of the callers' steps. Here w is a world, p a caller's number and t an attempt.
use Rattle.std.specs.Prelude.{◌≡◌, ℕ, suc, ◌-◌, ◌^◌, ◌<◌, ◌≤◌, ◌⊎◌, Bool, nat_eq, if◌then◌else◌, IsTrue, IsFalse, List, [], ◌∷◌, ◌++◌, length, slice_index, IfSome, Option, Some, None}
use Rattle.std.specs.List.{All}
use Rattle.std.specs.Map.{keys_of, values_of}
use Rattle.meta_word.specs.Meta.{changing_by_another, owned_by_another, same_but_pending}
use Rattle.meta_word.specs.declared.meta.Meta.{Meta}
use Rattle.meta_word.specs.declared.meta.TheConstants.{MAX_OWNER, MAX_VERSION}
use Rattle.meta_word.specs.declared.status.Phase.{Phase}
use Rattle.meta_word.specs.declared.status.Phase.TheVariants.{Active, Doomed, Idle, Preparing}
use Rattle.meta_word.specs.declared.status.TheConstants.{MAX_SERIAL}
use Rattle.meta_word.specs.declared.status.TxnStatus.{TxnStatus}
use Rattle.stm_model.specs.declared.cause.Cause.{Cause}
use Rattle.stm_model.specs.declared.cause.Cause.TheVariants.{Stale}
use Rattle.stm_model.specs.declared.ending.Ending.{Ending}
use Rattle.stm_model.specs.declared.ending.Ending.TheVariants.{Committed, Read, Rolled}
use Rattle.stm_model.specs.declared.note.Note.{Note}
use Rattle.stm_model.specs.After.{note_of}
use Rattle.stm_model.specs.Attempt.{Attempt, Stage, Write, Announce, Begin, ReadMeta, ExtendClock, ExtendNote, ReadValue, Validate, AcquireMeta, Acquire, OwnerStatus, OwnerMeta, DoomOwner, ReleaseLevel, Mark, Prepare, CommitClock, CommitNote, Decide, StoreValues, Release, RollBack, Close, Ended, cause_at, holds, marks, stamp_of, unstored_at}
use Rattle.stm_model.specs.CellsState.{Book, empty_book}
use Rattle.stm_model.specs.Evidence.{Evidence}
use Rattle.stm_model.specs.Heap.{Agrees, AreWords, writes_to}
use Rattle.stm_model.specs.History.{Entry, IsCurrent, IsEntry, IsLegal, entry_after, last, state}
use Rattle.stm_model.specs.Refusing.{NotesVersion}
use Rattle.stm_model.specs.World.{IsCaller, Terms, View, World, attempt_of, cells_in, entry_of}

-- Callers, stamps and the clock have room in their words.
pub record TermsFit (terms : Terms) : Type 0 where
  pub callers : terms.callers ≤ MAX_OWNER
  pub limit : terms.limit ≤ MAX_VERSION
  pub words : AreWords terms.opening

-- ---- cells

-- the stamp of the decided writer that owns a cell, or 0
abbrev pub stamp_on : World → ℕ → ℕ
stamp_on w cell = stamp_of (attempt_of w (w.meta cell).owner)

-- what a cell holds when n entries are in
abbrev pub value_then : Terms → World → ℕ → ℕ → ℕ
value_then terms w n cell = slice_index (state terms.opening w.history n) cell

-- A cell that no decided writer owns holds what the whole history has left there.
pub record HoldsNewest (terms : Terms) (w : World) (cell : ℕ) : Type 0 where
  pub version : (w.meta cell).version ≡ last w.history (length w.history) cell
  pub value : w.value cell ≡ value_then terms w (length w.history) cell

-- A cell that a decided writer owns is marked. Its version is the one before that writer's entry, which is the last to write it, and its value is the new one where that is stored.
pub record IsBeingWritten (terms : Terms) (w : World) (cell stamp : ℕ) : Type 0 where
  pub changing : IsTrue (w.meta cell).changing
  pub version : (w.meta cell).version ≡ last w.history (stamp - 1) cell
  pub newest : last w.history (length w.history) cell ≡ stamp
  pub value : w.value cell ≡ value_then terms w
      (if writes_to (unstored_at (attempt_of w (w.meta cell).owner).stage) cell then stamp - 1 else stamp) cell

-- a cell's metadata and value, by who owns it
pub record SafeCell (terms : Terms) (w : World) (cell : ℕ) : Type 0 where
  -- its owner is the caller that holds it, if one does
  pub owner : (p : ℕ) → 0 < p → holds (attempt_of w p) cell ≡ nat_eq p (w.meta cell).owner
  -- it is changing where its owner has marked it
  pub changing : (w.meta cell).changing ≡ marks (attempt_of w (w.meta cell).owner) cell
  pub settled : stamp_on w cell ≡ 0 → HoldsNewest terms w cell
  pub written : 0 < stamp_on w cell → IsBeingWritten terms w cell (stamp_on w cell)

-- ---- attempts

-- The cell may be read: it is one of the heap, not written and not noted.
pub record IsToRead (terms : Terms) (t : Attempt) (cell : ℕ) : Type 0 where
  pub in_range : cell < cells_in terms
  pub unwritten : IsFalse (writes_to t.now.writes cell)
  pub unnoted : note_of t.notes cell ≡ None

-- The cell may be acquired: it is one of the heap, and not written.
pub record IsToWrite (terms : Terms) (t : Attempt) (cell value : ℕ) : Type 0 where
  pub in_range : cell < cells_in terms
  pub unwritten : IsFalse (writes_to t.now.writes cell)
  pub word : value < 2 ^ 64

-- The meta word that was loaded was not changing by another, and of no later version than now.
pub record WasSeen (w : World) (t : Attempt) (cell : ℕ) (first : Meta) : Type 0 where
  pub quiet : IsFalse (changing_by_another t.own first)
  pub behind : first.version ≤ (w.meta cell).version

-- After the meta word of this version a value was loaded: it is that version's, or the cell has a later version now, or is being written.
abbrev pub WasFetched : Terms → World → (cell version value : ℕ) → Type 0
WasFetched terms w cell version value =
    (value ≡ value_then terms w version cell) ⊎ (version < (w.meta cell).version) ⊎ (0 < stamp_on w cell)

-- A word was found: its owner is a caller's number or 0, its version is no later than now, and where it is the same, a pending bit is still there.
pub record WasFound (terms : Terms) (w : World) (cell : ℕ) (meta : Meta) : Type 0 where
  pub owner : meta.owner ≤ terms.callers
  pub behind : meta.version ≤ (w.meta cell).version
  pub pending : meta.version ≡ (w.meta cell).version → IsTrue meta.pending → IsTrue (w.meta cell).pending

-- The word that an exchange expects is nobody's, so it is not changing. It is the first one, or a second exchange expects it with the pending bit that came since.
pub record IsFree (first expected : Meta) (again : Bool) : Type 0 where
  pub nobody : expected.owner ≡ 0
  pub quiet : IsFalse expected.changing
  pub alike : IsTrue (same_but_pending expected first)
  pub pending : IsTrue again → IsTrue expected.pending

-- Another caller was found to own the cell.
pub record WasTaken (terms : Terms) (w : World) (t : Attempt) (cell : ℕ) (meta : Meta) : Type 0 where
  pub another : IsTrue (owned_by_another t.own meta)
  pub found : WasFound terms w cell meta

-- The list ends with these.
abbrev pub EndsWith : {X : Type 0} → List X → List X → Type 0
EndsWith {X} list end = (front : List X) × (list ≡ front ++ end)

-- The clock was loaded as this, and all notes but those behind had their version then.
pub record WasSampled (w : World) (t : Attempt) (clock : ℕ) (behind : List Note) : Type 0 where
  pub low : t.prefix ≤ clock
  pub high : clock ≤ length w.history
  pub checked : List Note
  pub notes : t.notes ≡ checked ++ behind
  pub each : All (λ note. note.version ≡ last w.history clock note.addr.0) checked

-- The level that is undone began with these writes. The cells that were first written since are released one by one, and those behind are still held.
pub record ReleasesLevel (t : Attempt) (kept behind : List Write) : Type 0 where
  pub former : Book
  pub others : List Book
  pub level : t.saved ≡ former ∷ others
  pub kept_writes : kept ≡ former.writes
  pub given : List ℕ
  pub whole : keys_of t.now.writes ≡ keys_of kept ++ given ++ keys_of behind

-- Nothing is read, written, registered or due yet.
pub record IsBlank (t : Attempt) : Type 0 where
  pub due : t.due ≡ []
  pub notes : t.notes ≡ []
  pub now : t.now ≡ empty_book
  pub saved : t.saved ≡ []

-- what holds of an attempt where it stands
unfoldable pub SafeStage : Terms → World → Attempt → Stage → Type 0
SafeStage terms w t Announce = IsBlank t
SafeStage terms w t Begin = IsBlank t
SafeStage terms w t (ReadMeta cell left) = IsToRead terms t cell
SafeStage terms w t (ExtendClock cell left first) = IsToRead terms t cell × WasSeen w t cell first
SafeStage terms w t (ExtendNote cell left first clock note behind) =
    IsToRead terms t cell × WasSeen w t cell first × (first.version ≤ clock) × WasSampled w t clock (note ∷ behind)
SafeStage terms w t (ReadValue cell left first) = IsToRead terms t cell × WasSeen w t cell first × (first.version ≤ t.prefix)
SafeStage terms w t (Validate cell left first value) =
    IsToRead terms t cell × WasSeen w t cell first × (first.version ≤ t.prefix) × WasFetched terms w cell first.version value
SafeStage terms w t (AcquireMeta cell value left tried) = IsToWrite terms t cell value
SafeStage terms w t (OwnerStatus cell value left first) = IsToWrite terms t cell value × WasTaken terms w t cell first
SafeStage terms w t (OwnerMeta cell value left first status) =
    IsToWrite terms t cell value × WasTaken terms w t cell first × (status.phase ≡ Active)
SafeStage terms w t (DoomOwner cell value left first second status) =
    IsToWrite terms t cell value × WasTaken terms w t cell first × WasTaken terms w t cell second × (second.owner ≡ first.owner) × (status.phase ≡ Active)
SafeStage terms w t (Acquire cell value left tried first expected again) =
    IsToWrite terms t cell value × WasFound terms w cell expected × IsFree first expected again
SafeStage terms w t (ReleaseLevel kept write behind) = ReleasesLevel t kept (write ∷ behind)
SafeStage terms w t Prepare = 0 < length t.now.writes
SafeStage terms w t (Mark write behind) = EndsWith t.now.writes (write ∷ behind)
SafeStage terms w t (CommitClock lost) = 0 < length t.now.writes
SafeStage terms w t (CommitNote lost clock note behind) = (0 < length t.now.writes) × WasSampled w t clock (note ∷ behind)
SafeStage terms w t (Decide lost clock) = (0 < length t.now.writes) × WasSampled w t clock [] × (clock < terms.limit)
SafeStage terms w t (StoreValues write behind) = EndsWith t.now.writes (write ∷ behind)
SafeStage terms w t (Release write behind) = EndsWith t.now.writes (write ∷ behind)
SafeStage terms w t (RollBack write behind) = EndsWith t.now.writes (write ∷ behind)
SafeStage terms w t _ = Unit {0}

-- the phases of an attempt that is about to end so: a writer has prepared, a reader hasn't, and one that is rolled back may have
unfoldable pub ClosingPhase : Option Ending → Phase → Type 0
ClosingPhase (Some (Committed stamp)) phase = phase ≡ Preparing
ClosingPhase (Some (Rolled cause prefix)) phase = (phase ≡ Active) ⊎ (phase ≡ Preparing)
ClosingPhase ending phase = phase ≡ Active

-- the phases that an attempt may have at a stage
unfoldable pub PhaseAt : Stage → Option Ending → Phase → Type 0
PhaseAt Announce ending phase = phase ≡ Idle
PhaseAt Ended ending phase = phase ≡ Idle
PhaseAt (Mark write behind) ending phase = phase ≡ Preparing
PhaseAt (CommitClock lost) ending phase = phase ≡ Preparing
PhaseAt (CommitNote lost clock note behind) ending phase = phase ≡ Preparing
PhaseAt (Decide lost clock) ending phase = phase ≡ Preparing
PhaseAt (StoreValues write behind) ending phase = phase ≡ Preparing
PhaseAt (Release write behind) ending phase = phase ≡ Preparing
PhaseAt (RollBack write behind) ending phase = ClosingPhase ending phase
PhaseAt Close ending phase = ClosingPhase ending phase
PhaseAt stage ending phase = phase ≡ Active

-- the endings that may be certain at a stage: a stamp from the decision on, a cause while it is rolled back
unfoldable pub EndingAt : Stage → Option Ending → Type 0
EndingAt (StoreValues write behind) (Some (Committed stamp)) = Unit {0}
EndingAt (Release write behind) (Some (Committed stamp)) = Unit {0}
EndingAt (RollBack write behind) (Some (Rolled cause prefix)) = Unit {0}
EndingAt Close (Some ending) = Unit {0}
EndingAt Ended ending = Unit {0}
EndingAt (StoreValues write behind) ending = ⊥
EndingAt (Release write behind) ending = ⊥
EndingAt (RollBack write behind) ending = ⊥
EndingAt Close ending = ⊥
EndingAt stage ending = ending ≡ None

-- what is stale is one of the notes
unfoldable pub NamesNote : List Note → Cause → Type 0
NamesNote notes (Stale cell version meta) = NotesVersion notes cell version
NamesNote notes cause = Unit {0}

-- The attempt shows the cause.
pub record IsShown (t : Attempt) (cause : Cause) : Type 0 where
  pub evidence : Evidence t.own t.settings cause
  pub named : NamesNote t.notes cause

-- How an attempt ends is true of it: the stamp is the place of its own entry, the prefix is its own, and the words of a cause show it.
unfoldable pub EndsSo : World → Attempt → Option Ending → Type 0
EndsSo w t None = Unit {0}
EndsSo w t (Some (Committed stamp)) = (0 < stamp) × (stamp ≤ length w.history) × (entry_after w.history (stamp - 1) ≡ entry_of t)
EndsSo w t (Some (Read prefix)) = prefix ≡ t.prefix
EndsSo w t (Some (Rolled cause prefix)) = (prefix ≡ t.prefix) × IsShown t cause

-- Each level began with the writes of the cells that were written first, in order, and its writes are words.
abbrev pub LevelsNest : List ℕ → List Book → Type 0
LevelsNest cells [] = Unit {0}
LevelsNest cells (book ∷ books) =
    ((since : List ℕ) × (cells ≡ keys_of book.writes ++ since)) × AreWords (values_of book.writes) × LevelsNest (keys_of book.writes) books

-- What holds of an attempt at every stage: draft is the entry that it would leave in the history, clock its limit of the clock, heap its prefix, and saved its open levels.
pub record IsSound (terms : Terms) (w : World) (p : ℕ) (draft : Entry) (clock heap : ℕ) (saved : List Book) : Type 0 where
  pub own : draft.caller ≡ p
  pub serial : draft.serial ≤ MAX_SERIAL
  pub limit : clock ≡ terms.limit
  -- all that it has read is from the heap at its prefix
  pub prefix : heap ≤ length w.history
  pub notes : All (IsCurrent terms.opening w.history heap) draft.reads
  pub entry : IsEntry draft
  pub noted_cells : All (λ note. note.addr.0 < cells_in terms) draft.reads
  pub written_cells : All (λ cell. cell < cells_in terms) (keys_of draft.writes)
  pub levels : LevelsNest (keys_of draft.writes) saved

-- The attempt is sound. Its phase, its ending, its stage, its handlers and what it owes are no part of that.
abbrev pub Sound : Terms → World → ℕ → Attempt → Type 0
Sound terms w p t = IsSound terms w p (entry_of t) t.settings.clock t.prefix t.saved

-- an attempt that a caller makes
pub record SafeAttempt (terms : Terms) (w : World) (p : ℕ) (t : Attempt) : Type 0 where
  pub sound : Sound terms w p t
  pub phase : PhaseAt t.stage t.ending t.phase
  pub ending : EndingAt t.stage t.ending
  pub ends_so : EndsSo w t t.ending
  -- and so is the cause that it was refused with
  pub refused : IfSome (cause_at t.stage) (IsShown t)
  pub stage : SafeStage terms w t t.stage

-- ---- views and status words

-- The attempt is in flight, or it has ended and wasn't let go.
unfoldable pub IsKept : Stage → Option Ending → Type 0
IsKept Ended None = ⊥
IsKept stage ending = Unit {0}

-- The attempt has loaded the clock.
unfoldable pub HasBegun : Stage → Type 0
HasBegun Announce = ⊥
HasBegun Begin = ⊥
HasBegun stage = Unit {0}

-- what a caller has seen
pub record SafeView (w : World) (view : View) : Type 0 where
  pub seen : view.seen ≤ length w.history
  pub since : view.since ≤ view.seen
  pub clock : view.clock ≤ length w.history
  -- an attempt reads no older heap than its caller had seen before it
  pub fresh : HasBegun view.attempt.stage → IsKept view.attempt.stage view.attempt.ending → view.since ≤ view.attempt.prefix

-- The word has the attempt's number, and before its first access the one before.
unfoldable pub SerialAt : Stage → ℕ → ℕ → Type 0
SerialAt Announce serial word = serial ≡ suc word
SerialAt stage serial word = serial ≡ word

-- A caller's status word says what its attempt has stored, unless that was doomed while it was active.
pub record SafeStatus (t : Attempt) (word : TxnStatus) : Type 0 where
  pub serial : SerialAt t.stage t.serial word.serial
  pub phase : (word.phase ≡ t.phase) ⊎ ((t.phase ≡ Active) × (word.phase ≡ Doomed))

-- Nobody has this number, so it has made no attempt.
pub record IsNobody (view : View) (word : TxnStatus) : Type 0 where
  pub stage : view.attempt.stage ≡ Ended
  pub stamp : stamp_of view.attempt ≡ 0
  pub empty : word ≡ record { serial = 0; phase = Idle }

-- ---- the history

-- Each heap of the history keeps the law, and each may follow the one before.
pub record KeepsLaw (lawful : List ℕ → Type 0) (may : List ℕ → List ℕ → Type 0) (opening : List ℕ) (history : List Entry) : Type 0 where
  pub each : (n : ℕ) → n ≤ length history → lawful (state opening history n)
  pub next : (n : ℕ) → n < length history → may (state opening history n) (state opening history (suc n))

-- whose an entry is
abbrev pub caller_at : World → ℕ → ℕ
caller_at w n = (entry_after w.history n).caller

-- which of its caller's attempts left it
abbrev pub serial_at : World → ℕ → ℕ
serial_at w n = (entry_after w.history n).serial

-- Entries are those of callers, each attempt's at most once and in order, and each caller has seen its own.
pub record EntriesAreCallers (terms : Terms) (w : World) : Type 0 where
  pub callers : (n : ℕ) → n < length w.history → IsCaller terms (caller_at w n)
  pub seen : (n : ℕ) → n < length w.history → n < (w.view (caller_at w n)).seen
  pub ascend : (m n : ℕ) → m < n → n < length w.history → caller_at w m ≡ caller_at w n → serial_at w m < serial_at w n
  pub latest : (n : ℕ) → n < length w.history → serial_at w n ≤ (w.status (caller_at w n)).serial
  -- an attempt that isn't decided has no entry
  pub undecided : (n p : ℕ) → n < length w.history → caller_at w n ≡ p → IsKept (attempt_of w p).stage (attempt_of w p).ending →
      stamp_of (attempt_of w p) ≡ 0 → serial_at w n < (attempt_of w p).serial

-- ---- all together

-- the world is safe
pub record Safe (lawful : List ℕ → Type 0) (may : List ℕ → List ℕ → Type 0) (terms : Terms) (w : World) : Type 0 where
  pub fits : TermsFit terms
  -- the clock counts the entries
  pub clock : w.clock ≡ length w.history
  pub limit : w.clock ≤ terms.limit
  pub legal : IsLegal terms.opening w.history
  pub law : KeepsLaw lawful may terms.opening w.history
  pub callers : EntriesAreCallers terms w
  pub cells : (cell : ℕ) → cell < cells_in terms → SafeCell terms w cell
  pub attempts : (p : ℕ) → IsCaller terms p → SafeAttempt terms w p (attempt_of w p)
  pub views : (p : ℕ) → p ≤ terms.callers → SafeView w (w.view p)
  pub statuses : (p : ℕ) → IsCaller terms p → SafeStatus (attempt_of w p) (w.status p)
  pub nobody : (p : ℕ) → (p ≡ 0) ⊎ (terms.callers < p) → IsNobody (w.view p) (w.status p)

-- What an attempt has read is one heap of the history, no older than what its caller had seen before it.
pub record Opaque (opening : List ℕ) (history : List Entry) (since : ℕ) (t : Attempt) : Type 0 where
  pub prefix : t.prefix ≤ length history
  pub fresh : since ≤ t.prefix
  pub notes : Agrees t.notes (state opening history t.prefix)
