-- The moves of an attempt that touch no shared word. Here t is an attempt.
use Rattle.std.specs.Prelude.{◌≡◌, ℕ, suc, ◌^◌, ◌<◌, ◌≤◌, ◌⊎◌, false, nat_eq, nat_lt, if◌then◌else◌, IsFalse, List, [], ◌∷◌, ◌++◌, length, drop, Option, Some, None}
use Rattle.std.specs.Map.{lookup}
use Rattle.meta_word.specs.Policy.{looks}
use Rattle.meta_word.specs.declared.status.TheConstants.{MAX_SERIAL}
use Rattle.stm_model.specs.declared.access.Ask.{Ask}
use Rattle.stm_model.specs.declared.access.Ask.TheVariants.{Get, Set, Enter, Keep, Undo, Hook, Later, Finish, Abandon}
use Rattle.stm_model.specs.declared.cause.Cause.{Cause}
use Rattle.stm_model.specs.declared.cause.Cause.TheVariants.{Memory, TooDeep}
use Rattle.stm_model.specs.declared.ending.Ending.TheVariants.{Read}
use Rattle.stm_model.specs.declared.note.Note.{Note}
use Rattle.stm_model.specs.declared.settings.Settings.{Settings}
use Rattle.stm_model.specs.After.{at, done, release_level_on, note_of, rolled, run_all, stopped, answer_with}
use Rattle.stm_model.specs.Attempt.{AcquireMeta, Announce, Attempt, Close, Due, Ended, ReadMeta, Late, Prepare, Ready, Ring, Run, Stage, Stopped, Write, cause_at, no_attempt}
use Rattle.stm_model.specs.CellsState.{Book, outer}
use Rattle.stm_model.specs.Handlers.{committing, preparing}
use Rattle.stm_model.specs.Heap.{put, writes_to}
use Rattle.stm_model.specs.Refusing.{IsOfBody, deepest}

-- ---- the asks of a body

-- what is read of a cell that isn't buffered: its noted value, or else what is read now
abbrev pub read_noted : Attempt → ℕ → Option Note → Attempt
read_noted t cell (Some note) = answer_with t note.value
read_noted t cell None = at t (ReadMeta cell (looks t.settings.policy))

-- what is read of a cell: the buffered value before all others
abbrev pub read_buffered : Attempt → ℕ → Option ℕ → Attempt
read_buffered t cell (Some value) = answer_with t value
read_buffered t cell None = read_noted t cell (note_of t.notes cell)

-- A cell that is written for the first time has to be acquired.
abbrev pub write_cell : Attempt → ℕ → ℕ → Attempt
write_cell t cell value =
    if writes_to t.now.writes cell
    then done (record t { now = record t.now { writes = put t.now.writes cell value } })
    else at t (AcquireMeta cell value (looks t.settings.policy) false)

-- A level opens, unless as many as may be are open.
abbrev pub enter_level : Attempt → Attempt
enter_level t = if nat_lt (length t.saved) deepest then done (record t { saved = t.now ∷ t.saved }) else stopped t (TooDeep deepest)

-- The cells that were first written in the innermost level are released.
abbrev pub undo_level : Attempt → List Book → Attempt
undo_level t [] = t
undo_level t (former ∷ books) = release_level_on t former.writes (drop (length former.writes) t.now.writes)

-- ---- the end of a body

-- What has written something is committed, and else it ends as a reader.
abbrev pub conclude : Attempt → List Write → Attempt
conclude t [] = at (record t { ending = Some (Read t.prefix); due = run_all (preparing t.now.hooks ++ committing t.now.hooks) }) Close
conclude t (write ∷ writes) = at t Prepare

-- The next before-commit body has its turn, and where there is none the end has come.
abbrev pub turn_to : Attempt → List ℕ → Attempt
turn_to t [] = conclude t t.now.writes
turn_to t (token ∷ tokens) = at (record t { turn = suc t.turn }) (Late token)

-- the next before-commit body, or the end
abbrev pub go_on : Attempt → Attempt
go_on t = turn_to t (drop t.turn t.now.laters)

-- ---- asks

-- what an attempt makes of an ask that it waits for
unfoldable pub asked_going : Attempt → Ask → Attempt
asked_going t (Get cell) = read_buffered t cell.0 (lookup (nat_eq cell.0) t.now.writes)
asked_going t (Set cell value) = write_cell t cell.0 value
asked_going t Enter = enter_level t
asked_going t Keep = done (record t { saved = outer t.saved })
asked_going t Undo = undo_level t t.saved
asked_going t (Hook phase token) = done (record t { now = record t.now { hooks = t.now.hooks ++ (phase, token) ∷ [] } })
asked_going t (Later token) = done (record t { now = record t.now { laters = t.now.laters ++ token ∷ [] } })
asked_going t Finish = go_on t
asked_going t (Abandon cause) = rolled t cause

-- Who was refused something stays so: each call is refused with that cause, levels are closed and nothing is undone with them, and whatever it ends with, it is rolled back with that cause.
unfoldable pub asked_stopped : Attempt → Cause → Ask → Attempt
asked_stopped t cause Keep = record t { saved = outer t.saved }
asked_stopped t cause Undo = record t { saved = outer t.saved }
asked_stopped t cause Finish = rolled t cause
asked_stopped t cause (Abandon other) = rolled t cause
asked_stopped t cause _ = t

-- an attempt at this stage, after an ask
unfoldable pub asked_at : Attempt → Stage → Ask → Attempt
asked_at t (Ready answer) ask = asked_going t ask
asked_at t (Late token) ask = asked_going t ask
asked_at t (Stopped cause) ask = asked_stopped t cause ask
asked_at t _ ask = t

-- A before-commit body is over.
unfoldable pub late_over_at : Attempt → Stage → Attempt
late_over_at t (Ready answer) = go_on t
late_over_at t (Late token) = go_on t
late_over_at t (Stopped cause) = rolled t cause
late_over_at t _ = t

-- ---- all local moves

-- A handler is run, or a bell rung, and that is kept.
abbrev pub did_first : Attempt → List Due → Attempt
did_first t [] = t
did_first t (Run phase token ∷ dues) = record t { now = record t.now { runs = t.now.runs ++ (phase, token) ∷ [] }; due = dues }
did_first t (Ring cell ∷ dues) = record t { rings = t.rings ++ cell ∷ []; due = dues }

-- the caller's next attempt
abbrev pub begun : Attempt → Settings → Attempt
begun t settings = record (no_attempt t.own settings) { serial = suc t.serial; stage = Announce }

-- a local move
pub data Move : Type 0 where
  -- an ask is taken, or refused where memory is out
  Takes : (ask : Ask) → Move
  OutOfMemory : (ask : Ask) → Move
  -- what is due first is done
  Does : Move
  -- a before-commit body is over
  EndsLate : Move
  -- the next attempt begins
  Begins : (settings : Settings) → Move
  -- what is kept of an attempt that is over is let go
  Forgets : Move

-- an attempt after a local move
unfoldable pub moved : Attempt → Move → Attempt
moved t (Takes ask) = asked_at t t.stage ask
moved t (OutOfMemory ask) = stopped t Memory
moved t Does = did_first t t.due
moved t EndsLate = late_over_at t t.stage
moved t (Begins settings) = begun t settings
moved t Forgets = record (no_attempt t.own t.settings) { serial = t.serial }

-- ---- when they may come

-- the asks that answer a cause where one was answered
unfoldable pub IsCall : Ask → Type 0
IsCall (Get cell) = Unit {0}
IsCall (Set cell value) = Unit {0}
IsCall Enter = Unit {0}
IsCall (Hook phase token) = Unit {0}
IsCall (Later token) = Unit {0}
IsCall _ = ⊥

unfoldable pub AwaitsAskAt : Stage → Type 0
AwaitsAskAt (Ready answer) = Unit {0}
AwaitsAskAt (Late token) = Unit {0}
AwaitsAskAt (Stopped cause) = Unit {0}
AwaitsAskAt _ = ⊥

-- It waits to be asked.
pub record AwaitsAsk (t : Attempt) : Type 0 where
  pub stands : AwaitsAskAt t.stage
  pub nothing_due : t.due ≡ []

-- A body rolls back for causes of its own, and for the one that it was refused with.
abbrev pub MayAbandon : Attempt → Cause → Type 0
MayAbandon t cause = IsOfBody cause ⊎ (cause_at t.stage ≡ Some cause)

-- An ask may come: it names a cell of the heap, closes a level that is open, ends the body itself, or rolls back for such a cause.
unfoldable pub MayAsk : ℕ → Attempt → Ask → Type 0
MayAsk size t (Get cell) = cell.0 < size
MayAsk size t (Set cell value) = (cell.0 < size) × (value < 2 ^ 64)
MayAsk size t Keep = 0 < length t.saved
MayAsk size t Undo = 0 < length t.saved
MayAsk size t Finish = t.turn ≡ 0
MayAsk size t (Abandon cause) = MayAbandon t cause
MayAsk size t _ = Unit {0}

-- A first read, a write, a level, a handler and a before-commit body may find memory out.
unfoldable pub MayRunOut : Attempt → Ask → Type 0
MayRunOut t (Get cell) = IsFalse (writes_to t.now.writes cell.0) × (note_of t.notes cell.0 ≡ None)
MayRunOut t (Set cell value) = Unit {0}
MayRunOut t Enter = length t.saved < deepest
MayRunOut t (Hook phase token) = Unit {0}
MayRunOut t (Later token) = Unit {0}
MayRunOut t _ = ⊥

-- A local move may come, over so many cells and under this limit of the clock. A caller makes as many attempts as the settings allow.
unfoldable pub May : (size limit : ℕ) → Attempt → Move → Type 0
May size limit t (Takes ask) = AwaitsAsk t × MayAsk size t ask
May size limit t (OutOfMemory ask) = AwaitsAsk t × (cause_at t.stage ≡ None) × MayAsk size t ask × MayRunOut t ask
May size limit t Does = 0 < length t.due
May size limit t EndsLate = AwaitsAsk t × (0 < t.turn)
May size limit t (Begins settings) =
    (t.stage ≡ Ended) × (t.due ≡ []) × (settings.clock ≡ limit) × (t.serial < settings.attempts) × (settings.attempts ≤ MAX_SERIAL)
May size limit t Forgets = (t.stage ≡ Ended) × (t.due ≡ [])

-- an attempt after some local moves
abbrev pub moved_on : Attempt → List Move → Attempt
moved_on t [] = t
moved_on t (move ∷ moves) = moved_on (moved t move) moves

-- each of them may come where it comes
abbrev pub MayAll : (size limit : ℕ) → Attempt → List Move → Type 0
MayAll size limit t [] = Unit {0}
MayAll size limit t (move ∷ moves) = May size limit t move × MayAll size limit (moved t move) moves
