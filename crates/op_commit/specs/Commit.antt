-- The commit of what an attempt has written.
use Rattle.std.specs.Prelude.{◌≡◌, ℕ, ◌+◌, ◌-◌, ◌*◌, ◌<◌, ◌≤◌, List, ◌++◌, length, drop, Option, Some, None, unwrap_or}
use Rattle.meta_word.specs.declared.meta.TheConstants.{MAX_VERSION}
use Rattle.meta_word.specs.declared.status.Phase.{Phase}
use Rattle.meta_word.specs.declared.status.Phase.TheVariants.{Idle, Preparing}
use Rattle.meta_word.specs.declared.status.TheConstants.{MAX_SERIAL}
use Rattle.op_commit.specs.declared.commit.CommitEnd.{CommitEnd}
use Rattle.op_commit.specs.declared.commit.CommitEnd.TheVariants.{Bad, Decided, Prepared, Stamp}
use Rattle.op_commit.specs.declared.commit.CommitOp.{CommitOp}
use Rattle.op_commit.specs.declared.commit.CommitPlace.{CommitPlace}
use Rattle.op_commit.specs.declared.commit.CommitPlace.TheVariants as at_commit
use Rattle.op_commit.specs.Buffered.{buffered, ring_for}
use Rattle.stm_model.specs.declared.cause.Addr.{Addr}
use Rattle.stm_model.specs.declared.cause.Cause.{Cause}
use Rattle.stm_model.specs.declared.cause.Cause.TheVariants.{Doomed}
use Rattle.stm_model.specs.declared.ending.Ending.TheVariants.{Committed}
use Rattle.stm_model.specs.declared.note.Note.{Note}
use Rattle.stm_model.specs.After.{at, validate_on, mark_on, release_on, rolled, run_all, store_on}
use Rattle.stm_model.specs.Attempt.{Attempt, Close, Decide, Due, Ended, Prepare, CommitClock}
use Rattle.stm_model.specs.Handlers.{after_commit, committing as runs_at_decision, preparing as runs_before}

-- the notes that a commit goes along: the buffered cells, and then what was read
abbrev pub notes_to_commit : Attempt → List Note
notes_to_commit t = buffered t.now.writes ++ t.notes

-- ---- the attempt while it commits

-- It can't be doomed any more.
abbrev pub in_preparation : Attempt → Attempt
in_preparation t = record t { phase = Preparing }

-- Its commit is decided.
abbrev pub stamped : Attempt → ℕ → Attempt
stamped t stamp = record t { phase = Preparing; ending = Some (Committed stamp) }

-- Who was doomed has not begun to prepare.
abbrev pub phase_refused : Cause → Phase → Phase
phase_refused (Doomed status) phase = phase
phase_refused cause phase = Preparing

abbrev pub committing_end : CommitEnd → Attempt → Attempt
committing_end Prepared t = mark_on (in_preparation t) t.now.writes
committing_end (Decided stamp) t = store_on (stamped t stamp) t.now.writes
committing_end (Stamp stamp) t = at (record (stamped t stamp) { phase = Idle }) Ended
committing_end (Bad cause prefix) t = rolled (record t { phase = phase_refused cause t.phase; prefix = unwrap_or prefix t.prefix }) cause

abbrev pub committing_at : CommitPlace → (writes : ℕ) → Attempt → Attempt
committing_at at_commit.Prepare writes t = at t Prepare
committing_at (at_commit.Mark index) writes t = mark_on (in_preparation t) (drop index t.now.writes)
committing_at (at_commit.CommitClock lost) writes t = at (in_preparation t) (CommitClock lost)
committing_at (at_commit.CommitNote lost clock index) writes t = validate_on (in_preparation t) lost clock (drop (index - writes) t.notes)
committing_at (at_commit.Decide lost clock) writes t = at (in_preparation t) (Decide lost clock)
committing_at (at_commit.StoreValues stamp index) writes t = store_on (stamped t stamp) (drop index t.now.writes)
committing_at (at_commit.Release stamp index) writes t = release_on (stamped t stamp) (drop index t.now.writes)
committing_at (at_commit.Close stamp) writes t = at (stamped t stamp) Close
committing_at (at_commit.Ended end) writes t = committing_end end t

-- the attempt that this one is while the commit stands so
abbrev pub committing : CommitOp → Attempt → Attempt
committing op = committing_at op.place op.writes

abbrev pub due_at : CommitPlace → Option Addr → Attempt → List Due
due_at (at_commit.Ended Prepared) rung t = ring_for rung ++ run_all (runs_before t.now.hooks)
due_at (at_commit.Ended (Decided stamp)) rung t = ring_for rung ++ run_all (runs_at_decision t.now.hooks)
due_at (at_commit.Ended (Stamp stamp)) rung t = ring_for rung ++ run_all (after_commit t.now.hooks)
due_at place rung t = ring_for rung

-- what has come due by the last access: a ring where the pending bit was found, and handlers at a stop and at the end
abbrev pub due_by : CommitOp → Attempt → List Due
due_by op = due_at op.place op.rung

-- The commit is made for this attempt.
pub record IsCommitting (op : CommitOp) (t : Attempt) : Type 0 where
  pub own : t.own ≡ op.own
  pub serial : t.serial ≡ op.serial
  pub tries : t.settings.tries ≡ op.tries
  pub limit : t.settings.clock ≡ op.limit
  pub writes : length t.now.writes ≡ op.writes

-- ---- where it stands

-- It stands at one of its notes, if at any, and the clock and the stamp are within the limit.
abbrev pub IsInPlace : CommitPlace → (writes limit count : ℕ) → Type 0
IsInPlace (at_commit.Mark index) writes limit count = index < writes
IsInPlace (at_commit.CommitNote lost clock index) writes limit count = (writes ≤ index) × ((index < count) × (clock ≤ limit))
IsInPlace (at_commit.Decide lost clock) writes limit count = clock < limit
IsInPlace (at_commit.StoreValues stamp index) writes limit count = (index < writes) × (stamp ≤ limit)
IsInPlace (at_commit.Release stamp index) writes limit count = (index < writes) × (stamp ≤ limit)
IsInPlace (at_commit.Close stamp) writes limit count = stamp ≤ limit
IsInPlace (at_commit.Ended (Decided stamp)) writes limit count = stamp ≤ limit
IsInPlace place writes limit count = Unit {0}

-- It goes along these notes, and all that it keeps is within bounds.
pub record IsAlong (op : CommitOp) (notes : List Note) : Type 0 where
  pub serial : op.serial ≤ MAX_SERIAL
  pub limit : op.limit ≤ MAX_VERSION
  pub writes : op.writes ≤ length notes
  pub place : IsInPlace op.place op.writes op.limit (length notes)

-- A clock that it loads is within the limit.
abbrev pub ClockFits : CommitPlace → (limit answer : ℕ) → Type 0
ClockFits (at_commit.CommitClock lost) limit answer = answer ≤ limit
ClockFits place limit answer = Unit {0}

-- It waits for handlers to be run.
abbrev pub IsStop : CommitPlace → Type 0
IsStop (at_commit.Ended Prepared) = Unit {0}
IsStop (at_commit.Ended (Decided stamp)) = Unit {0}
IsStop place = ⊥

abbrev pub end_at : CommitPlace → Option CommitEnd
end_at (at_commit.Ended end) = Some end
end_at place = None

abbrev pub end_of_commit : CommitOp → Option CommitEnd
end_of_commit op = end_at op.place

-- ---- how many accesses may follow, over so many notes

-- of so many rounds that each load the clock, validate the notes and try for the clock
abbrev pub rounds : (count writes reads : ℕ) → ℕ
rounds count writes reads = count * (reads + 2) + (2 * writes + 1)

abbrev pub left_at : CommitPlace → (writes tries reads : ℕ) → ℕ
left_at at_commit.Prepare writes tries reads = writes + rounds (tries + 1) writes reads + 1
left_at (at_commit.Mark index) writes tries reads = writes - index + rounds (tries + 1) writes reads
left_at (at_commit.CommitClock lost) writes tries reads = rounds (tries - lost + 1) writes reads
left_at (at_commit.CommitNote lost clock index) writes tries reads = rounds (tries - lost) writes reads + (reads + writes - index) + 1
left_at (at_commit.Decide lost clock) writes tries reads = rounds (tries - lost) writes reads + 1
left_at (at_commit.StoreValues stamp index) writes tries reads = writes - index + writes + 1
left_at (at_commit.Release stamp index) writes tries reads = writes - index + 1
left_at (at_commit.Close stamp) writes tries reads = 1
left_at (at_commit.Ended Prepared) writes tries reads = writes + rounds (tries + 1) writes reads
left_at (at_commit.Ended (Decided stamp)) writes tries reads = 2 * writes + 1
left_at (at_commit.Ended end) writes tries reads = 0

abbrev pub accesses_left : CommitOp → (reads : ℕ) → ℕ
accesses_left op = left_at op.place op.writes op.tries
