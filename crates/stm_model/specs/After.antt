-- What an attempt makes of the answer to its access. Here t is an attempt.
use Rattle.std.specs.Prelude.{ℕ, zero, suc, Bool, true, false, not, ◌&&◌, nat_eq, nat_lt, if◌then◌else◌, List, [], ◌∷◌, ◌++◌, map, Option, Some, None}
use Rattle.std.specs.List.{find}
use Rattle.meta_word.specs.Meta.{changing_by_another, owned_by_another, same_but_pending, same_meta, still_has}
use Rattle.meta_word.specs.Policy.{dooms}
use Rattle.meta_word.specs.Status.{same_status}
use Rattle.meta_word.specs.declared.meta.Meta.{Meta}
use Rattle.meta_word.specs.declared.status.Phase.{Phase}
use Rattle.meta_word.specs.declared.status.Phase.TheVariants.{Active, Idle, Preparing}
use Rattle.meta_word.specs.declared.status.TxnStatus.{TxnStatus}
use Rattle.stm_model.specs.declared.cause.Cause.{Cause}
use Rattle.stm_model.specs.declared.cause.Cause.TheVariants.{ClockEnd, ClockMoved, Doomed, Moved, ReadConflict, Stale, WriteConflict}
use Rattle.stm_model.specs.declared.ending.Ending.{Ending}
use Rattle.stm_model.specs.declared.ending.Ending.TheVariants.{Committed, Rolled}
use Rattle.stm_model.specs.declared.note.Note.{Note}
use Rattle.stm_model.specs.CellsState.{level_runs, outer, returned}
use Rattle.stm_model.specs.Handlers.{Handlers, after_commit, committing, preparing, undoing}
use Rattle.stm_model.specs.Heap.{put}
use Rattle.stm_model.specs.Accesses.{Act, Answer, Number, OfMeta, OfStatus, active, addr_of, answer_of, next}
use Rattle.stm_model.specs.Attempt.{Attempt, Due, Run, Ring, Stage, Write, Announce, Begin, Ready, Stopped, ReadMeta, ExtendClock, ExtendNote, ReadValue, Validate, AcquireMeta, Acquire, OwnerStatus, OwnerMeta, DoomOwner, ReleaseLevel, Prepare, Mark, CommitClock, CommitNote, Decide, StoreValues, Release, RollBack, Close, Ended}

-- the attempt at another stage
abbrev pub at : Attempt → Stage → Attempt
at t stage = record t { stage = stage }

-- ---- words that were found

-- the status is that of an attempt that can be doomed
abbrev pub is_active : Phase → Bool
is_active Active = true
is_active _ = false

-- the note of a cell
abbrev pub note_of : List Note → ℕ → Option Note
note_of notes cell = find (λ note. nat_eq note.addr.0 cell) notes

-- the cause of who finds that a noted cell no longer stands as it was noted
abbrev pub stale : Note → Meta → Cause
stale note found = Stale note.addr note.version found

-- ---- what comes due

-- these handlers, one after another
abbrev pub run_all : Handlers → List Due
run_all hooks = map (λ hook. Run hook.0 hook.1) hooks

-- where somebody waits for the cell
abbrev pub ring_if : Bool → ℕ → List Due
ring_if pending cell = if pending then Ring cell ∷ [] else []

-- ---- an ask is answered or refused

-- by a value
abbrev pub answer_with : Attempt → ℕ → Attempt
answer_with t value = at t (Ready (Some value))

-- by none
abbrev pub done : Attempt → Attempt
done t = at t (Ready None)

-- by a cause
abbrev pub stopped : Attempt → Cause → Attempt
stopped t cause = at t (Stopped cause)

-- ---- it is rolled back

-- Each cell that it holds is released. Then its status is stored.
abbrev pub roll_on : Attempt → List Write → Attempt
roll_on t [] = at t Close
roll_on t (write ∷ behind) = at t (RollBack write behind)

-- It ends with this cause at its prefix.
abbrev pub rolled : Attempt → Cause → Attempt
rolled t cause = roll_on (record t { ending = Some (Rolled cause t.prefix) }) t.now.writes

-- ---- it reads

-- A round of a read is over: one more, or it is refused.
abbrev pub read_again : Attempt → ℕ → ℕ → Cause → Attempt
read_again t cell zero cause = stopped t cause
read_again t cell (suc left) cause = at t (ReadMeta cell left)

-- The meta word is loaded: the round is over where another is changing the cell, and an extension comes first where the version is past the prefix.
unfoldable pub meta_read : Attempt → ℕ → ℕ → Meta → Attempt
meta_read t cell left first =
    if changing_by_another t.own first then read_again t cell left (ReadConflict (addr_of cell) first) else
    if nat_lt t.prefix first.version then at t (ExtendClock cell left first) else at t (ReadValue cell left first)

-- An extension goes on along the notes. At their end the prefix is the clock.
abbrev pub extend_on : Attempt → ℕ → ℕ → Meta → ℕ → List Note → Attempt
extend_on t cell left first clock [] = at (record t { prefix = clock }) (ReadValue cell left first)
extend_on t cell left first clock (note ∷ behind) = at t (ExtendNote cell left first clock note behind)

-- A note is validated, for an extension.
unfoldable pub extended : Attempt → ℕ → ℕ → Meta → ℕ → Note → List Note → Meta → Attempt
extended t cell left first clock note behind found =
    if still_has t.own note.version found
    then extend_on t cell left first clock behind
    else stopped t (stale note found)

-- The meta word is validated: the value is noted where the cell still stands as it was loaded.
unfoldable pub validated : Attempt → ℕ → ℕ → Meta → ℕ → Meta → Attempt
validated t cell left first value second =
    if still_has t.own first.version second
    then answer_with (record t { notes = t.notes ++ record { addr = addr_of cell; version = first.version; value = value } ∷ [] }) value
    else read_again t cell left (Moved (addr_of cell) first second)

-- ---- it acquires a cell that it writes for the first time

-- Why a first write is refused: another owns the cell, or it has moved since its meta word was loaded.
abbrev pub write_refused : ℕ → ℕ → Meta → Meta → Cause
write_refused own cell first latest =
    if owned_by_another own latest then WriteConflict (addr_of cell) latest else Moved (addr_of cell) first latest

-- A round of a first write is over: one more, or it is refused.
abbrev pub acquire_again : Attempt → ℕ → ℕ → ℕ → Bool → Meta → Meta → Attempt
acquire_again t cell value zero tried first latest = stopped t (write_refused t.own cell first latest)
acquire_again t cell value (suc left) tried first latest = at t (AcquireMeta cell value left tried)

-- Another owns the cell: that one may be doomed, once for the write, or the round is over.
abbrev pub doom_or_again : Attempt → ℕ → ℕ → ℕ → Bool → Meta → Attempt
doom_or_again t cell value left tried first =
    if dooms t.settings.policy && not tried
    then at t (OwnerStatus cell value left first)
    else acquire_again t cell value left tried first first

-- The meta word of a cell that is to be acquired is loaded. Where nobody owns the cell, it is exchanged.
unfoldable pub acquiring : Attempt → ℕ → ℕ → ℕ → Bool → Meta → Attempt
acquiring t cell value left tried first =
    if owned_by_another t.own first
    then doom_or_again t cell value left tried first
    else if nat_eq first.owner 0
    then at t (Acquire cell value left tried first first false)
    else acquire_again t cell value left tried first first

-- A cell that was read at another version is stale, whoever owns it.
abbrev pub meta_acquired : Attempt → ℕ → ℕ → ℕ → Bool → Option Note → Meta → Attempt
meta_acquired t cell value left tried None first = acquiring t cell value left tried first
meta_acquired t cell value left tried (Some note) first =
    if nat_eq note.version first.version
    then acquiring t cell value left tried first
    else stopped t (stale note first)

-- Who won the exchange owns the cell and writes it. An exchange lost to the pending bit alone is tried once more.
unfoldable pub exchanged : Attempt → ℕ → ℕ → ℕ → Bool → Meta → Meta → Bool → Meta → Attempt
exchanged t cell value left tried first expected again found =
    if same_meta found expected
    then done (record t { now = record t.now { writes = put t.now.writes cell value } })
    else if not again && same_but_pending found expected
    then at t (Acquire cell value left tried first found true)
    else acquire_again t cell value left tried first found

-- Only where the owner is active the cell is validated.
unfoldable pub owner_status_loaded : Attempt → ℕ → ℕ → ℕ → Meta → TxnStatus → Attempt
owner_status_loaded t cell value left first status =
    if is_active status.phase
    then at t (OwnerMeta cell value left first status)
    else acquire_again t cell value left true first first

-- Only an owner that still holds the cell, and isn't changing it, is doomed.
unfoldable pub owner_validated : Attempt → ℕ → ℕ → ℕ → Meta → TxnStatus → Meta → Attempt
owner_validated t cell value left first status second =
    if nat_eq second.owner first.owner && not second.changing
    then at t (DoomOwner cell value left first second status)
    else acquire_again t cell value left true first second

-- ---- it undoes a level

-- The cells that were first written in the level are released. Then the book is the one from before it, and its handlers are due.
abbrev pub release_level_on : Attempt → List Write → List Write → Attempt
release_level_on t kept [] = done (record t {
  now = returned t.saved t.now;
  saved = outer t.saved;
  due = t.due ++ run_all (level_runs t.saved t.now);
})
release_level_on t kept (write ∷ behind) = at t (ReleaseLevel kept write behind)

-- ---- it commits

-- Each cell that was written is marked. Then the clock is loaded.
abbrev pub mark_on : Attempt → List Write → Attempt
mark_on t [] = at t (CommitClock 0)
mark_on t (write ∷ behind) = at t (Mark write behind)

-- Who exchanged its status from active prepares; who was doomed is rolled back.
unfoldable pub prepared : Attempt → TxnStatus → Attempt
prepared t found =
    if same_status found (active t.serial)
    then mark_on (record t { phase = Preparing; due = run_all (preparing t.now.hooks) }) t.now.writes
    else rolled t (Doomed found)

-- The notes are validated one after another. Then the clock is tried for, unless it is at its limit.
unfoldable pub validate_on : Attempt → ℕ → ℕ → List Note → Attempt
validate_on t lost clock [] =
    if nat_eq clock t.settings.clock
    then rolled (record t { prefix = clock }) (ClockEnd clock)
    else at t (Decide lost clock)
validate_on t lost clock (note ∷ behind) = at t (CommitNote lost clock note behind)

-- A note is validated, for a commit.
unfoldable pub note_validated : Attempt → ℕ → ℕ → Note → List Note → Meta → Attempt
note_validated t lost clock note behind found =
    if still_has t.own note.version found
    then validate_on t lost clock behind
    else rolled t (stale note found)

-- Each cell is released. Then the status is stored.
abbrev pub release_on : Attempt → List Write → Attempt
release_on t [] = at t Close
release_on t (write ∷ behind) = at t (Release write behind)

-- Each value is stored. Then the cells are released.
abbrev pub store_on : Attempt → List Write → Attempt
store_on t [] = release_on t t.now.writes
store_on t (write ∷ behind) = at t (StoreValues write behind)

-- Who exchanges the clock is decided: its stamp is the clock's new value.
unfoldable pub decided : Attempt → ℕ → ℕ → ℕ → Attempt
decided t lost clock found =
    if nat_eq found clock
    then store_on (record t { ending = Some (Committed (suc clock)); due = run_all (committing t.now.hooks) }) t.now.writes
    else if nat_lt lost t.settings.tries
    then at t (CommitClock (suc lost))
    else rolled t (ClockMoved clock found)

-- ---- it is over

-- the handlers that run once an attempt has ended so
unfoldable pub final_runs : Option Ending → Handlers → Handlers
final_runs (Some (Rolled cause prefix)) hooks = undoing hooks
final_runs _ hooks = after_commit hooks

-- What an attempt is after the answer to the access that it makes where it stands.
unfoldable pub after_at : Attempt → Stage → Answer → Attempt
after_at t Announce (OfStatus found) = at (record t { phase = Active }) Begin
after_at t Begin (Number clock) = done (record t { prefix = clock })
after_at t (ReadMeta cell left) (OfMeta found) = meta_read t cell left found
after_at t (ExtendClock cell left first) (Number clock) = extend_on t cell left first clock t.notes
after_at t (ExtendNote cell left first clock note behind) (OfMeta found) = extended t cell left first clock note behind found
after_at t (ReadValue cell left first) (Number value) = at t (Validate cell left first value)
after_at t (Validate cell left first value) (OfMeta found) = validated t cell left first value found
after_at t (AcquireMeta cell value left tried) (OfMeta found) = meta_acquired t cell value left tried (note_of t.notes cell) found
after_at t (Acquire cell value left tried first expected again) (OfMeta found) = exchanged t cell value left tried first expected again found
after_at t (OwnerStatus cell value left first) (OfStatus found) = owner_status_loaded t cell value left first found
after_at t (OwnerMeta cell value left first status) (OfMeta found) = owner_validated t cell value left first status found
after_at t (DoomOwner cell value left first second status) (OfStatus found) = acquire_again t cell value left true first second
after_at t (ReleaseLevel kept write behind) (OfMeta found) = release_level_on (record t { due = ring_if found.pending write.0 }) kept behind
after_at t Prepare (OfStatus found) = prepared t found
after_at t (Mark write behind) (OfMeta found) = mark_on t behind
after_at t (CommitClock lost) (Number clock) = validate_on t lost clock t.notes
after_at t (CommitNote lost clock note behind) (OfMeta found) = note_validated t lost clock note behind found
after_at t (Decide lost clock) (Number found) = decided t lost clock found
after_at t (StoreValues write behind) (Number found) = store_on t behind
after_at t (Release write behind) (OfMeta found) = release_on (record t { due = ring_if found.pending write.0 }) behind
after_at t (RollBack write behind) (OfMeta found) = roll_on (record t { due = ring_if found.pending write.0 }) behind
after_at t Close (OfStatus found) = at (record t { phase = Idle; due = run_all (final_runs t.ending t.now.hooks) }) Ended
after_at t _ _ = t

-- What an attempt is after the answer to its next access.
abbrev pub after : Attempt → Answer → Attempt
after t answer = after_at t t.stage answer

-- the same after this access, if there is one
abbrev pub after_found : Attempt → Option Act → ℕ → Attempt
after_found t None word = t
after_found t (Some act) word = after t (answer_of act word)

-- What an attempt is after its next access has found this word.
abbrev pub after_word : Attempt → ℕ → Attempt
after_word t word = after_found t (next t) word
