-- How an attempt is kept, and which attempt that shows.
use Rattle.std.specs.Prelude.{◌≡◌, ℕ, ◌+◌, ◌-◌, ◌<◌, ◌≤◌, ◌⊎◌, Bool, true, false, if◌then◌else◌, IfSome, IsFalse, IsNone, IsSome, List, [], ◌++◌, length, take, Option, Some, None}
use Rattle.std.specs.List.{All}
use Rattle.meta_word.specs.declared.meta.Meta.{Meta}
use Rattle.meta_word.specs.declared.meta.TheConstants.{MAX_OWNER}
use Rattle.meta_word.specs.declared.status.Phase.TheVariants.{Active, Idle, Preparing}
use Rattle.meta_word.specs.declared.status.TheConstants.{MAX_SERIAL}
use Rattle.op_commit.specs.Acquire as acquire
use Rattle.op_commit.specs.Back as rollback
use Rattle.op_commit.specs.Buffered.{buffered, ring_for}
use Rattle.op_commit.specs.Commit as commit
use Rattle.op_commit.specs.declared.acquire.AcquireOp.{AcquireOp}
use Rattle.op_commit.specs.declared.back.BackOp.{BackOp}
use Rattle.op_commit.specs.declared.commit.CommitOp.{CommitOp}
use Rattle.op_read.specs.Extend as extension
use Rattle.op_read.specs.Read as read
use Rattle.op_read.specs.declared.extend.ExtendOp.{ExtendOp}
use Rattle.op_read.specs.declared.read.ReadEnd.TheVariants.{NeedExtension}
use Rattle.op_read.specs.declared.read.ReadOp.{ReadOp}
use Rattle.read_set.specs.Reads.{Reads}
use Rattle.stm_core.specs.Machine.{HasSpare, Machine, SettingsFit, TakesNoMemory, accesses_asked, reads_asked, writes_asked}
use Rattle.stm_core.specs.Marked.{AreMarked}
use Rattle.stm_core.specs.Past.{book_of, books_in, rings_in, runs_in}
use Rattle.stm_core.specs.declared.footprint.Footprint.{Footprint}
use Rattle.stm_core.specs.declared.running.Dues.{Dues}
use Rattle.stm_core.specs.declared.running.Running.{Running}
use Rattle.stm_core.specs.declared.running.State.{State}
use Rattle.stm_core.specs.declared.running.State.TheVariants as in_state
use Rattle.stm_model.specs.declared.ending.Ending.{Ending}
use Rattle.stm_model.specs.declared.settings.Settings.{Settings}
use Rattle.stm_model.specs.declared.access.Ask.{Ask}
use Rattle.stm_model.specs.declared.access.Ask.TheVariants.{Keep, Undo}
use Rattle.stm_model.specs.declared.cause.Addr.{Addr}
use Rattle.stm_model.specs.declared.marks.Level.{Level}
use Rattle.lifecycle.specs.Registered.{Registered}
use Rattle.lifecycle.specs.Walk.{walk_runs}
use Rattle.lifecycle.specs.declared.walk.Walk.{Walk}
use Rattle.write_buffer.specs.Buffer.{Buffer}
use Rattle.stm_model.specs.declared.cause.Cause.{Cause}
use Rattle.stm_model.specs.declared.cause.Cause.TheVariants.{Memory}
use Rattle.stm_model.specs.After.{after_word, at, note_of, run_all, stopped}
use Rattle.stm_model.specs.Attempt.{Announce, Attempt, Begin, Due, Ended, Late, Ready, Stage, Stopped, no_attempt}
use Rattle.stm_model.specs.CellsState.{Book}
use Rattle.stm_model.specs.Handlers.{Handlers}
use Rattle.stm_model.specs.Heap.{writes_to}
use Rattle.stm_model.specs.Moves.{MayRunOut, asked_going}

-- ---- what is due

-- a cell to be rung for, and then handlers to be run
abbrev pub due_with : Option Addr → Option Walk → Handlers → List Due
due_with ring None hooks = ring_for ring
due_with ring (Some walk) hooks = ring_for ring ++ run_all (walk_runs walk hooks)

-- what is due, of these handlers
abbrev pub due_in : Dues → Handlers → List Due
due_in dues hooks = due_with dues.ring dues.runs hooks

-- the handlers among it
abbrev pub runs_due : Option Walk → Handlers → Handlers
runs_due None hooks = []
runs_due (Some walk) hooks = walk_runs walk hooks

-- Where there is a walk, it comes to a run.
abbrev pub HasRuns : Option Walk → Handlers → Type 0
HasRuns runs hooks = IfSome runs (λ walk. 0 < length (walk_runs walk hooks))

-- nothing
abbrev pub none_due : Dues
none_due = record { ring = None; runs = None }

-- ---- which attempt it shows

-- the attempt but for where it stands
abbrev pub base : Running → Attempt
base r = record (no_attempt r.own r.settings) {
  serial = r.serial;
  phase = Active;
  prefix = r.prefix;
  notes = r.footprint.reads.notes;
  now = book_of r.footprint.writes r.handlers (runs_in r.past);
  saved = books_in r.past;
  turn = r.turn;
  due = due_in r.due r.handlers.hooks;
  rings = rings_in r.past;
}

-- the attempt on its way to this ending, after it has begun to prepare or before
abbrev pub closing : Attempt → Ending → (prepared : Bool) → Attempt
closing t ending prepared = record t { ending = Some ending; phase = if prepared then Preparing else Active }

-- the attempt with these handlers registered
abbrev pub with_hooks : Attempt → Handlers → Attempt
with_hooks t hooks = record t { now = record t.now { hooks = hooks } }

-- the attempt in this state
unfoldable pub attempt_at : Attempt → State → Attempt
attempt_at t in_state.Announce = at (record t { phase = Idle }) Announce
attempt_at t in_state.Begin = at t Begin
attempt_at t (in_state.Ready told) = at t (Ready told)
attempt_at t (in_state.Late token) = at t (Late token)
attempt_at t (in_state.Stopped cause) = at t (Stopped cause)
attempt_at t (in_state.Read op) = read.reading op t
attempt_at t (in_state.Extend reading first op) = extension.extending op reading.addr.0 reading.left first t
attempt_at t (in_state.Acquire op value) = acquire.acquiring op value t
attempt_at t (in_state.Undo op) = rollback.backing op t
attempt_at t (in_state.Undone hooks) = at (with_hooks t (take hooks t.now.hooks)) (Ready None)
attempt_at t (in_state.Commit op) = commit.committing op t
attempt_at t (in_state.RollBack op ending prepared) = rollback.backing op (closing t ending prepared)
attempt_at t (in_state.Ended ending) = at (record t { phase = Idle; ending = Some ending }) Ended

-- the attempt that it shows
abbrev pub shown : Running → Attempt
shown r = attempt_at (base r) r.state

-- ---- how many accesses may follow before it replies

unfoldable pub left_at : State → (reads writes : ℕ) → ℕ
left_at in_state.Announce reads writes = 2
left_at in_state.Begin reads writes = 1
left_at (in_state.Read op) reads writes = read.accesses_left op reads
left_at (in_state.Extend reading first op) reads writes = read.accesses_left reading reads - (1 + reads) + extension.accesses_left op reads
left_at (in_state.Acquire op value) reads writes = acquire.accesses_left op
left_at (in_state.Undo op) reads writes = rollback.accesses_left op writes
left_at (in_state.Commit op) reads writes = commit.accesses_left op reads + (writes + 1)
left_at (in_state.RollBack op ending prepared) reads writes = rollback.accesses_left op writes
left_at state reads writes = 0

-- of it as it stands
abbrev pub left_in : Running → ℕ
left_in r = left_at r.state (length r.footprint.reads.notes) (length r.footprint.writes.writes)

-- ---- its room

-- a first read, and a first write, that is under way has its room
unfoldable pub reads_under_way : State → ℕ
reads_under_way (in_state.Read op) = 1
reads_under_way (in_state.Extend reading first op) = 1
reads_under_way state = 0

unfoldable pub writes_under_way : State → ℕ
writes_under_way (in_state.Acquire op value) = 1
writes_under_way state = 0

-- ---- what its callers see

-- the attempt with what may follow and with its room
abbrev pub machine_of : Running → Machine
machine_of r = record {
  attempt = shown r;
  left = left_in r;
  spare_reads = r.footprint.reads.spare - reads_under_way r.state;
  spare_writes = r.footprint.writes.spare - writes_under_way r.state;
}

-- ---- what holds of it

-- The cell isn't noted yet, and its note needs no memory.
pub record HasRoomFor (reads : Reads) (cell : ℕ) : Type 0 where
  pub unnoted : note_of reads.notes cell ≡ None
  pub room : 0 < reads.spare

-- The read is made for it.
pub record IsReading (r : Running) (op : ReadOp) : Type 0 where
  pub made_for : read.IsReading op (base r)
  pub room : HasRoomFor r.footprint.reads op.addr.0

-- The extension is made for it, and for a read that waits for it.
pub record IsExtending (r : Running) (reading : ReadOp) (first : Meta) (op : ExtendOp) : Type 0 where
  pub made_for : extension.IsExtending op (base r)
  pub along : extension.IsAlong op r.footprint.reads.notes
  pub own : reading.own ≡ r.own
  pub waits : read.end_of_read reading ≡ Some (NeedExtension first)
  pub room : HasRoomFor r.footprint.reads reading.addr.0

-- The first write is made for it.
pub record IsAcquiring (r : Running) (op : AcquireOp) : Type 0 where
  pub made_for : acquire.IsAcquiring op (base r)
  pub within : acquire.IsWithin op
  pub unwritten : IsFalse (writes_to r.footprint.writes.writes op.addr.0)
  pub room : 0 < r.footprint.writes.spare

-- The commit is made for it.
pub record IsCommitting (r : Running) (op : CommitOp) : Type 0 where
  pub made_for : commit.IsCommitting op (base r)
  pub along : commit.IsAlong op (buffered r.footprint.writes.writes ++ r.footprint.reads.notes)

-- The rollback is made for it, and is that of the whole attempt.
pub record IsRollingBack (r : Running) (op : BackOp) : Type 0 where
  pub made_for : rollback.IsBacking op (base r)
  pub along : rollback.IsAlong op (buffered r.footprint.writes.writes)
  pub whole : op.whole ≡ true

-- The undo of the innermost level is made for it.
pub record IsUndoing (r : Running) (op : BackOp) : Type 0 where
  pub made_for : rollback.IsBacking op (base r)
  pub along : rollback.IsAlong op (buffered r.footprint.writes.writes)
  pub part : op.whole ≡ false
  pub inside : 0 < length r.levels

-- Runs of a level that was undone are left. So many handlers were registered where it was entered, and no more where each open level was.
pub record IsUndone (r : Running) (hooks : ℕ) : Type 0 where
  pub within : hooks ≤ length r.handlers.hooks
  pub outer : All (λ level. level.hooks ≤ hooks) r.levels
  pub runs : IsSome r.due.runs

-- What holds in this state: its operation is made for it, and goes on.
unfoldable pub InvariantAt : Running → State → Type 0
InvariantAt r (in_state.Read op) = IsReading r op × IsNone (read.end_of_read op)
InvariantAt r (in_state.Extend reading first op) = IsExtending r reading first op × IsNone (extension.end_of_extension op)
InvariantAt r (in_state.Acquire op value) = IsAcquiring r op × IsNone (acquire.end_of_acquire op)
InvariantAt r (in_state.Late token) = 0 < r.turn
InvariantAt r (in_state.Undo op) = IsUndoing r op × IsNone (rollback.end_of_back op)
InvariantAt r (in_state.Undone hooks) = IsUndone r hooks
InvariantAt r (in_state.Commit op) = IsCommitting r op × IsNone (commit.end_of_commit op)
InvariantAt r (in_state.RollBack op ending prepared) = IsRollingBack r op × IsNone (rollback.end_of_back op)
InvariantAt r state = Unit {0}

-- Its numbers have room in their words.
pub record NumbersFit (number serial : ℕ) (settings : Settings) : Type 0 where
  pub own : number ≤ MAX_OWNER
  pub serials : serial ≤ MAX_SERIAL
  pub limits : SettingsFit settings

-- Nothing is noted, written or registered in them, and no level is open.
pub record AreUnused (footprint : Footprint) (registered : Registered) (levels : List Level) : Type 0 where
  pub reads : footprint.reads.notes ≡ []
  pub writes : footprint.writes.writes ≡ []
  pub hooks : registered.hooks ≡ []
  pub laters : registered.laters ≡ []
  pub closed : levels ≡ []

-- Its numbers fit, and the levels lead back to their books.
pub record IsKept (number serial : ℕ) (settings : Settings) (writes : Buffer) (registered : Registered) (levels : List Level) (books : List Book) : Type 0 where
  pub numbers : NumbersFit number serial settings
  pub marks : AreMarked writes registered levels books

-- So it is of one as it stands.
abbrev pub Fits : Running → Type 0
Fits r = IsKept r.own r.serial r.settings r.footprint.writes r.handlers r.levels (books_in r.past)

-- It fits, what is due is there, and what it does is made for it.
pub record IsSound (r : Running) : Type 0 where
  pub fits : Fits r
  pub runs : HasRuns r.due.runs r.handlers.hooks
  pub holds : InvariantAt r r.state

-- ---- what a call finds and what it leaves

-- It fits and nothing is due.
pub record IsFree (r : Running) : Type 0 where
  pub fits : Fits r
  pub nothing_due : r.due ≡ none_due

-- So it is, and is in this state.
pub record IsIn (state : State) (r : Running) : Type 0 where
  pub fits : Fits r
  pub nothing_due : r.due ≡ none_due
  pub holds : InvariantAt r state

-- It stays that of its caller, with its number and its settings.
pub record KeepsNumbers (before after : Running) : Type 0 where
  pub own : after.own ≡ before.own
  pub serial : after.serial ≡ before.serial
  pub settings : after.settings ≡ before.settings

-- It has become this attempt, which makes at most so many accesses before it replies.
pub record Becomes (t : Attempt) (most : ℕ) (before after : Running) : Type 0 where
  pub shows : shown after ≡ t
  pub left : left_in after ≤ most
  pub numbers : KeepsNumbers before after
  pub sound : IsSound after

-- What becomes of it in this state by the answer to its access.
pub record TakesAnswer (state : State) (answer : ℕ) (before after : Running) : Type 0 where
  pub shows : shown after ≡ after_word (attempt_at (base before) state) answer
  pub falls : left_in after < left_at state (length before.footprint.reads.notes) (length before.footprint.writes.writes)
  pub room : HasSpare (before.footprint.reads.spare - reads_under_way state) (before.footprint.writes.spare - writes_under_way state) (machine_of after)
  pub numbers : KeepsNumbers before after
  pub sound : IsSound after

-- ---- asks

-- the attempt at this stage
abbrev pub standing_at : Running → Stage → Attempt
standing_at r stage = at (base r) stage

-- the attempt, where it was refused something
abbrev pub refused : Running → (cause : Cause) → Attempt
refused r cause = at (base r) (Stopped cause)

-- The same, wherever it stood.
abbrev pub RunsOut : Attempt → Ask → (after : Attempt) → Type 0
RunsOut t ask after = MayRunOut t ask × (after ≡ stopped t Memory)

-- A level is open where the ask closes one.
unfoldable pub HasOpen : Ask → List Level → Type 0
HasOpen Keep levels = 0 < length levels
HasOpen Undo levels = 0 < length levels
HasOpen ask levels = Unit {0}

-- What an ask leaves: no more accesses may follow than the ask allows, and all room is there but what it uses up.
pub record IsAsked (ask : Ask) (before after : Running) : Type 0 where
  pub left : left_in after ≤ accesses_asked (base before) ask
  pub room : HasSpare (before.footprint.reads.spare - reads_asked (base before) ask) (before.footprint.writes.spare - writes_asked (base before) ask) (machine_of after)
  pub numbers : KeepsNumbers before after
  pub sound : IsSound after

-- What becomes of it by an ask that it waited for, wherever it stood.
pub record Answers (ask : Ask) (before after : Running) : Type 0 where
  pub moves : (stage : Stage) → (shown after ≡ asked_going (standing_at before stage) ask) ⊎ RunsOut (standing_at before stage) ask (shown after)
  pub takes : (stage : Stage) → TakesNoMemory before.footprint.reads.spare before.footprint.writes.spare (base before) ask → shown after ≡ asked_going (standing_at before stage) ask
  pub asked : IsAsked ask before after
