-- An attempt keeps its number and its settings, whatever an access finds and whatever local move it makes.
use Rattle.std.proofs.Common.{◌≡◌, ℕ, zero, suc, Bool, true, false, not, ◌&&◌, nat_eq, nat_lt, if◌then◌else◌, List, [], ◌∷◌, length, drop, Option, Some, None, refl}
use Rattle.std.specs.Map.{lookup}
use Rattle.meta_word.specs.Meta.{changing_by_another, owned_by_another, same_but_pending, same_meta, still_has}
use Rattle.meta_word.specs.Policy.{dooms, looks}
use Rattle.meta_word.specs.Status.{same_status}
use Rattle.meta_word.specs.declared.meta.Meta.{Meta}
use Rattle.meta_word.specs.declared.status.Phase.TheVariants.{Preparing}
use Rattle.meta_word.specs.declared.status.TxnStatus.{TxnStatus}
use Rattle.stm_model.specs.Accesses.{Answer, Number, OfMeta, OfStatus, active}
use Rattle.stm_model.specs.After.{acquire_again, acquiring, after, after_at, at, decided, done, exchanged, extend_on, extended, is_active, mark_on, meta_acquired, meta_read, note_of, note_validated, owner_status_loaded, owner_validated, prepared, read_again, release_level_on, release_on, ring_if, roll_on, rolled, run_all, stopped, store_on, validate_on, validated}
use Rattle.stm_model.specs.Attempt.{AcquireMeta, Acquire, Announce, Attempt, Begin, Close, CommitClock, CommitNote, Decide, DoomOwner, Due, ExtendClock, ExtendNote, Late, Mark, OwnerMeta, OwnerStatus, Prepare, ReadMeta, ReadValue, Ready, Release, ReleaseLevel, Ring, RollBack, Run, Stage, Stopped, StoreValues, Validate, Write}
use Rattle.stm_model.specs.CellsState.{Book}
use Rattle.stm_model.specs.Handlers.{committing, preparing}
use Rattle.stm_model.specs.Heap.{put, writes_to}
use Rattle.stm_model.specs.Moves.{Does, EndsLate, Takes, asked_at, asked_going, asked_stopped, conclude, did_first, late_over_at, moved, read_buffered, read_noted, turn_to, undo_level}
use Rattle.stm_model.specs.Refusing.{deepest}
use Rattle.stm_model.specs.declared.access.Ask.{Ask}
use Rattle.stm_model.specs.declared.access.Ask.TheVariants.{Abandon, Enter, Finish, Get, Hook, Keep, Later, Set, Undo}
use Rattle.stm_model.specs.declared.cause.Cause.{Cause}
use Rattle.stm_model.specs.declared.cause.Cause.TheVariants.{TooDeep}
use Rattle.stm_model.specs.declared.ending.Ending.TheVariants.{Committed, Rolled}
use Rattle.stm_model.specs.declared.note.Note.{Note}
use Rattle.stm_model.specs.declared.settings.Settings.{Settings}

-- the attempt has this number, and these settings
abbrev pub IsNumbered : ℕ → Settings → Attempt → Type 0
IsNumbered serial settings t = (t.serial ≡ serial) × (t.settings ≡ settings)

module _ (serial : ℕ) (settings : Settings) where
  abbrev Keeps : Attempt → Type 0
  Keeps t = IsNumbered serial settings t

  if_keeps : (b : Bool) (t u : Attempt) → Keeps t → Keeps u → Keeps (if b then t else u)
  if_keeps true t u first second = first
  if_keeps false t u first second = second

  -- ---- lists

  extend_keeps : (t : Attempt) (cell left : ℕ) (first : Meta) (clock : ℕ) (behind : List Note) → Keeps t → Keeps (extend_on t cell left first clock behind)
  extend_keeps t cell left first clock [] keeps = keeps
  extend_keeps t cell left first clock (note ∷ behind) keeps = keeps

  mark_keeps : (t : Attempt) (behind : List Write) → Keeps t → Keeps (mark_on t behind)
  mark_keeps t [] keeps = keeps
  mark_keeps t (write ∷ behind) keeps = keeps

  release_keeps : (t : Attempt) (behind : List Write) → Keeps t → Keeps (release_on t behind)
  release_keeps t [] keeps = keeps
  release_keeps t (write ∷ behind) keeps = keeps

  store_keeps : (t : Attempt) (behind : List Write) → Keeps t → Keeps (store_on t behind)
  store_keeps t [] keeps = release_keeps t t.now.writes keeps
  store_keeps t (write ∷ behind) keeps = keeps

  roll_keeps : (t : Attempt) (behind : List Write) → Keeps t → Keeps (roll_on t behind)
  roll_keeps t [] keeps = keeps
  roll_keeps t (write ∷ behind) keeps = keeps

  rolled_keeps : (t : Attempt) (cause : Cause) → Keeps t → Keeps (rolled t cause)
  rolled_keeps t cause keeps = roll_keeps (record t { ending = Some (Rolled cause t.prefix) }) t.now.writes keeps

  read_keeps : (t : Attempt) (cell left : ℕ) (cause : Cause) → Keeps t → Keeps (read_again t cell left cause)
  read_keeps t cell zero cause keeps = keeps
  read_keeps t cell (suc left) cause keeps = keeps

  again_keeps : (t : Attempt) (cell value left : ℕ) (tried : Bool) (first latest : Meta) → Keeps t → Keeps (acquire_again t cell value left tried first latest)
  again_keeps t cell value zero tried first latest keeps = keeps
  again_keeps t cell value (suc left) tried first latest keeps = keeps

  validate_keeps : (t : Attempt) (lost clock : ℕ) (behind : List Note) → Keeps t → Keeps (validate_on t lost clock behind)
  unfolding validate_on
  validate_keeps t lost clock [] keeps = if_keeps (nat_eq clock t.settings.clock) _ _ (rolled_keeps (record t { prefix = clock }) _ keeps) keeps
  validate_keeps t lost clock (note ∷ behind) keeps = keeps

  level_keeps : (t : Attempt) (kept behind : List Write) → Keeps t → Keeps (release_level_on t kept behind)
  level_keeps t kept [] keeps = keeps
  level_keeps t kept (write ∷ behind) keeps = keeps

  -- ---- accesses

  looked_keeps : (t : Attempt) (cell left : ℕ) (first : Meta) → Keeps t → Keeps (meta_read t cell left first)
  unfolding meta_read
  looked_keeps t cell left first keeps =
      if_keeps (changing_by_another t.own first) _ _ (read_keeps t cell left _ keeps) (if_keeps (nat_lt t.prefix first.version) _ _ keeps keeps)

  acquiring_keeps : (t : Attempt) (cell value left : ℕ) (tried : Bool) (first : Meta) → Keeps t → Keeps (acquiring t cell value left tried first)
  unfolding acquiring
  acquiring_keeps t cell value left tried first keeps =
      if_keeps (owned_by_another t.own first) _ _
      (if_keeps (dooms t.settings.policy && not tried) _ _ keeps (again_keeps t cell value left tried first first keeps))
      (if_keeps (nat_eq first.owner 0) _ _ keeps (again_keeps t cell value left tried first first keeps))

  acquired_keeps : (t : Attempt) (cell value left : ℕ) (tried : Bool) (note : Option Note) (first : Meta) → Keeps t → Keeps (meta_acquired t cell value left tried note first)
  acquired_keeps t cell value left tried None first keeps = acquiring_keeps t cell value left tried first keeps
  acquired_keeps t cell value left tried (Some note) first keeps =
      if_keeps (nat_eq note.version first.version) _ _ (acquiring_keeps t cell value left tried first keeps) keeps

  exchanged_keeps : (t : Attempt) (cell value left : ℕ) (tried : Bool) (first expected : Meta) (again : Bool) (found : Meta) → Keeps t
      → Keeps (exchanged t cell value left tried first expected again found)
  unfolding exchanged
  exchanged_keeps t cell value left tried first expected again found keeps =
      if_keeps (same_meta found expected) _ _ keeps
      (if_keeps (not again && same_but_pending found expected) _ _ keeps (again_keeps t cell value left tried first found keeps))

  decided_keeps : (t : Attempt) (lost clock found : ℕ) → Keeps t → Keeps (decided t lost clock found)
  unfolding decided
  decided_keeps t lost clock found keeps =
      if_keeps (nat_eq found clock) _ _
      (store_keeps (record t { ending = Some (Committed (suc clock)); due = run_all (committing t.now.hooks) }) t.now.writes keeps)
      (if_keeps (nat_lt lost t.settings.tries) _ _ keeps (rolled_keeps t _ keeps))

  prepared_keeps : (t : Attempt) (found : TxnStatus) → Keeps t → Keeps (prepared t found)
  unfolding prepared
  prepared_keeps t found keeps =
      if_keeps (same_status found (active t.serial)) _ _
      (mark_keeps (record t { phase = Preparing; due = run_all (preparing t.now.hooks) }) t.now.writes keeps) (rolled_keeps t _ keeps)

  access_keeps : (t : Attempt) (stage : Stage) (answer : Answer) → Keeps t → Keeps (after_at t stage answer)
  unfolding after_at extended validated owner_status_loaded owner_validated note_validated
  access_keeps t Announce (OfStatus found) keeps = keeps
  access_keeps t Begin (Number clock) keeps = keeps
  access_keeps t (ReadMeta cell left) (OfMeta found) keeps = looked_keeps t cell left found keeps
  access_keeps t (ExtendClock cell left first) (Number clock) keeps = extend_keeps t cell left first clock t.notes keeps
  access_keeps t (ExtendNote cell left first clock note behind) (OfMeta found) keeps =
      if_keeps (still_has t.own note.version found) _ _ (extend_keeps t cell left first clock behind keeps) keeps
  access_keeps t (ReadValue cell left first) (Number value) keeps = keeps
  access_keeps t (Validate cell left first value) (OfMeta found) keeps =
      if_keeps (still_has t.own first.version found) _ _ keeps (read_keeps t cell left _ keeps)
  access_keeps t (AcquireMeta cell value left tried) (OfMeta found) keeps = acquired_keeps t cell value left tried (note_of t.notes cell) found keeps
  access_keeps t (Acquire cell value left tried first expected again) (OfMeta found) keeps = exchanged_keeps t cell value left tried first expected again found keeps
  access_keeps t (OwnerStatus cell value left first) (OfStatus found) keeps =
      if_keeps (is_active found.phase) _ _ keeps (again_keeps t cell value left true first first keeps)
  access_keeps t (OwnerMeta cell value left first status) (OfMeta found) keeps =
      if_keeps (nat_eq found.owner first.owner && not found.changing) _ _ keeps (again_keeps t cell value left true first found keeps)
  access_keeps t (DoomOwner cell value left first second status) (OfStatus found) keeps = again_keeps t cell value left true first second keeps
  access_keeps t (ReleaseLevel kept write behind) (OfMeta found) keeps = level_keeps (record t { due = ring_if found.pending write.0 }) kept behind keeps
  access_keeps t Prepare (OfStatus found) keeps = prepared_keeps t found keeps
  access_keeps t (Mark write behind) (OfMeta found) keeps = mark_keeps t behind keeps
  access_keeps t (CommitClock lost) (Number clock) keeps = validate_keeps t lost clock t.notes keeps
  access_keeps t (CommitNote lost clock note behind) (OfMeta found) keeps =
      if_keeps (still_has t.own note.version found) _ _ (validate_keeps t lost clock behind keeps) (rolled_keeps t _ keeps)
  access_keeps t (Decide lost clock) (Number found) keeps = decided_keeps t lost clock found keeps
  access_keeps t (StoreValues write behind) (Number found) keeps = store_keeps t behind keeps
  access_keeps t (Release write behind) (OfMeta found) keeps = release_keeps (record t { due = ring_if found.pending write.0 }) behind keeps
  access_keeps t (RollBack write behind) (OfMeta found) keeps = roll_keeps (record t { due = ring_if found.pending write.0 }) behind keeps
  access_keeps t Close (OfStatus found) keeps = keeps
  access_keeps t stage answer keeps = keeps

  -- ---- local moves

  concludes : (t : Attempt) (writes : List Write) → Keeps t → Keeps (conclude t writes)
  concludes t [] keeps = keeps
  concludes t (write ∷ writes) keeps = keeps

  turns : (t : Attempt) (tokens : List ℕ) → Keeps t → Keeps (turn_to t tokens)
  turns t [] keeps = concludes t t.now.writes keeps
  turns t (token ∷ tokens) keeps = keeps

  reads_noted : (t : Attempt) (cell : ℕ) (note : Option Note) → Keeps t → Keeps (read_noted t cell note)
  reads_noted t cell None keeps = keeps
  reads_noted t cell (Some note) keeps = keeps

  reads : (t : Attempt) (cell : ℕ) (value : Option ℕ) → Keeps t → Keeps (read_buffered t cell value)
  reads t cell None keeps = reads_noted t cell (note_of t.notes cell) keeps
  reads t cell (Some value) keeps = keeps

  undoes : (t : Attempt) (saved : List Book) → Keeps t → Keeps (undo_level t saved)
  undoes t [] keeps = keeps
  undoes t (former ∷ books) keeps = level_keeps t former.writes (drop (length former.writes) t.now.writes) keeps

  going_keeps : (t : Attempt) (ask : Ask) → Keeps t → Keeps (asked_going t ask)
  unfolding asked_going
  going_keeps t (Get cell) keeps = reads t cell.0 (lookup (nat_eq cell.0) t.now.writes) keeps
  going_keeps t (Set cell value) keeps =
      if_keeps (writes_to t.now.writes cell.0) (done (record t { now = record t.now { writes = put t.now.writes cell.0 value } })) (at t (AcquireMeta cell.0 value (looks t.settings.policy) false)) keeps keeps
  going_keeps t Enter keeps =
      if_keeps (nat_lt (length t.saved) deepest) (done (record t { saved = t.now ∷ t.saved })) (stopped t (TooDeep deepest)) keeps keeps
  going_keeps t Keep keeps = keeps
  going_keeps t Undo keeps = undoes t t.saved keeps
  going_keeps t (Hook phase token) keeps = keeps
  going_keeps t (Later token) keeps = keeps
  going_keeps t Finish keeps = turns t (drop t.turn t.now.laters) keeps
  going_keeps t (Abandon cause) keeps = rolled_keeps t cause keeps

  refuses_keeps : (t : Attempt) (cause : Cause) (ask : Ask) → Keeps t → Keeps (asked_stopped t cause ask)
  unfolding asked_stopped
  refuses_keeps t cause Finish keeps = rolled_keeps t cause keeps
  refuses_keeps t cause (Abandon other) keeps = rolled_keeps t cause keeps
  refuses_keeps t cause ask keeps = keeps

  asked_keeps : (t : Attempt) (stage : Stage) (ask : Ask) → Keeps t → Keeps (asked_at t stage ask)
  unfolding asked_at
  asked_keeps t (Ready answer) ask keeps = going_keeps t ask keeps
  asked_keeps t (Late token) ask keeps = going_keeps t ask keeps
  asked_keeps t (Stopped cause) ask keeps = refuses_keeps t cause ask keeps
  asked_keeps t stage ask keeps = keeps

  late_keeps : (t : Attempt) (stage : Stage) → Keeps t → Keeps (late_over_at t stage)
  unfolding late_over_at
  late_keeps t (Ready answer) keeps = turns t (drop t.turn t.now.laters) keeps
  late_keeps t (Late token) keeps = turns t (drop t.turn t.now.laters) keeps
  late_keeps t (Stopped cause) keeps = rolled_keeps t cause keeps
  late_keeps t stage keeps = keeps

  did_keeps : (t : Attempt) (dues : List Due) → Keeps t → Keeps (did_first t dues)
  did_keeps t [] keeps = keeps
  did_keeps t (Run phase token ∷ dues) keeps = keeps
  did_keeps t (Ring cell ∷ dues) keeps = keeps

-- after an access
pub after_is : (t : Attempt) (answer : Answer) → IsNumbered t.serial t.settings (after t answer)
after_is t answer = access_keeps t.serial t.settings t t.stage answer (refl, refl)

-- what is due first is done
pub did_is : (t : Attempt) → IsNumbered t.serial t.settings (moved t Does)
unfolding moved
did_is t = did_keeps t.serial t.settings t t.due (refl, refl)

-- a request is taken
pub took_is : (t : Attempt) (ask : Ask) → IsNumbered t.serial t.settings (moved t (Takes ask))
unfolding moved
took_is t ask = asked_keeps t.serial t.settings t t.stage ask (refl, refl)

-- a before-commit body is over
pub late_over_is : (t : Attempt) → IsNumbered t.serial t.settings (moved t EndsLate)
unfolding moved
late_over_is t = late_keeps t.serial t.settings t t.stage (refl, refl)
