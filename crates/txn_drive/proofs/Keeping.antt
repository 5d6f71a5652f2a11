-- What the steps and the asks of an attempt leave as it is. Here t is an attempt and u what became of it.
use Rattle.std.proofs.Common.{◌≡◌, ◌≢◌, ℕ, zero, suc, Bool, true, false, not, ◌&&◌, nat_eq, nat_lt, if◌then◌else◌, List, [], ◌∷◌, ◌++◌, drop, length, Option, Some, None, refl, sym, ◌∙◌}
use Rattle.std.specs.Map.{lookup}
use Rattle.meta_word.specs.Meta.{changing_by_another, owned_by_another, same_but_pending, same_meta, still_has}
use Rattle.meta_word.specs.Policy.{dooms}
use Rattle.meta_word.specs.Status.{same_status}
use Rattle.meta_word.specs.declared.meta.Meta.{Meta}
use Rattle.meta_word.specs.declared.status.Phase.{Phase}
use Rattle.meta_word.specs.declared.status.Phase.TheVariants.{Preparing}
use Rattle.stm_model.specs.Accesses.{Act, Answer, Number, OfMeta, OfStatus, active, answer_of, next}
use Rattle.stm_model.specs.After.{acquire_again, acquiring, after, after_at, after_found, after_word, at, decided, exchanged, extend_on, extended, is_active, mark_on, meta_acquired, meta_read, note_of, note_validated, owner_status_loaded, owner_validated, prepared, read_again, release_level_on, release_on, ring_if, roll_on, rolled, run_all, store_on, validate_on, validated}
use Rattle.stm_model.specs.Attempt.{Attempt, Due, Run, Ring, Stage, Write, Announce, Begin, Ready, Late, Stopped, ReadMeta, ExtendClock, ExtendNote, ReadValue, Validate, AcquireMeta, Acquire, OwnerStatus, OwnerMeta, DoomOwner, ReleaseLevel, Prepare, Mark, CommitClock, CommitNote, Decide, StoreValues, Release, RollBack, Close}
use Rattle.stm_model.specs.CellsState.{Book, level_runs, outer, returned}
use Rattle.stm_model.specs.Handlers.{Handlers, committing, preparing}
use Rattle.stm_model.specs.Heap.{writes_to}
use Rattle.stm_model.specs.Moves.{Does, EndsLate, OutOfMemory, Takes, asked_at, asked_going, asked_stopped, conclude, did_first, late_over_at, moved, read_buffered, read_noted, turn_to, undo_level}
use Rattle.stm_model.specs.Refusing.{deepest}
use Rattle.stm_model.specs.declared.access.Ask.{Ask}
use Rattle.stm_model.specs.declared.access.Ask.TheVariants.{Abandon, Enter, Finish, Get, Hook, Keep, Later, Set, Undo}
use Rattle.stm_model.specs.declared.cause.Cause.{Cause}
use Rattle.stm_model.specs.declared.ending.Ending.{Ending}
use Rattle.stm_model.specs.declared.ending.Ending.TheVariants.{Committed, Rolled}
use Rattle.stm_model.specs.declared.note.Note.{Note}

-- It is the same attempt, with its turn at the same before-commit body. It has called nobody, and who had made its first access has.
pub record Keeps (t u : Attempt) : Type 0 where
  pub own : u.own ≡ t.own
  pub serial : u.serial ≡ t.serial
  pub settings : u.settings ≡ t.settings
  pub turn : u.turn ≡ t.turn
  pub rings : u.rings ≡ t.rings
  pub runs : u.now.runs ≡ t.now.runs
  pub started : t.stage ≢ Announce → u.stage ≢ Announce

-- The same, but for its turn.
pub record KeepsCalls (t u : Attempt) : Type 0 where
  pub own : u.own ≡ t.own
  pub serial : u.serial ≡ t.serial
  pub settings : u.settings ≡ t.settings
  pub rings : u.rings ≡ t.rings
  pub runs : u.now.runs ≡ t.now.runs
  pub started : t.stage ≢ Announce → u.stage ≢ Announce

-- Nothing but what is due, and who was called, has changed.
pub record KeepsRest (t u : Attempt) : Type 0 where
  pub own : u.own ≡ t.own
  pub serial : u.serial ≡ t.serial
  pub settings : u.settings ≡ t.settings
  pub phase : u.phase ≡ t.phase
  pub prefix : u.prefix ≡ t.prefix
  pub notes : u.notes ≡ t.notes
  pub writes : u.now.writes ≡ t.now.writes
  pub hooks : u.now.hooks ≡ t.now.hooks
  pub laters : u.now.laters ≡ t.now.laters
  pub saved : u.saved ≡ t.saved
  pub turn : u.turn ≡ t.turn
  pub ending : u.ending ≡ t.ending
  pub stage : u.stage ≡ t.stage

-- ---- one after another

pub keeps_same : (t : Attempt) → Keeps t t
keeps_same t = record { own = refl; serial = refl; settings = refl; turn = refl; rings = refl; runs = refl; started = λ has. has }

pub keeps_then : (t u v : Attempt) → Keeps t u → Keeps u v → Keeps t v
keeps_then t u v first second = record {
  own = second.own ∙ first.own;
  serial = second.serial ∙ first.serial;
  settings = second.settings ∙ first.settings;
  turn = second.turn ∙ first.turn;
  rings = second.rings ∙ first.rings;
  runs = second.runs ∙ first.runs;
  started = λ has. second.started (first.started has);
}

pub calls_of : (t u : Attempt) → Keeps t u → KeepsCalls t u
calls_of t u keeps = record { own = keeps.own; serial = keeps.serial; settings = keeps.settings; rings = keeps.rings; runs = keeps.runs; started = keeps.started }

pub calls_same : (t : Attempt) → KeepsCalls t t
calls_same t = calls_of t t (keeps_same t)

pub calls_then : (t u v : Attempt) → KeepsCalls t u → KeepsCalls u v → KeepsCalls t v
calls_then t u v first second = record {
  own = second.own ∙ first.own;
  serial = second.serial ∙ first.serial;
  settings = second.settings ∙ first.settings;
  rings = second.rings ∙ first.rings;
  runs = second.runs ∙ first.runs;
  started = λ has. second.started (first.started has);
}

-- the same, of what is told by one equation
pub rest_is : {t : Attempt} {u : Attempt} → u ≡ record t { due = u.due; rings = u.rings; now = record t.now { runs = u.now.runs } } → KeepsRest t u
rest_is is = record {
  own = λ i. (is i).own;
  serial = λ i. (is i).serial;
  settings = λ i. (is i).settings;
  phase = λ i. (is i).phase;
  prefix = λ i. (is i).prefix;
  notes = λ i. (is i).notes;
  writes = λ i. (is i).now.writes;
  hooks = λ i. (is i).now.hooks;
  laters = λ i. (is i).now.laters;
  saved = λ i. (is i).saved;
  turn = λ i. (is i).turn;
  ending = λ i. (is i).ending;
  stage = λ i. (is i).stage;
}

pub rest_started : (t u : Attempt) → KeepsRest t u → t.stage ≢ Announce → u.stage ≢ Announce
rest_started t u keeps has is = has (sym keeps.stage ∙ is)

pub rest_same : (t : Attempt) → KeepsRest t t
rest_same t = rest_is refl

pub rest_then : (t u v : Attempt) → KeepsRest t u → KeepsRest u v → KeepsRest t v
rest_then t u v first second = record {
  own = second.own ∙ first.own;
  serial = second.serial ∙ first.serial;
  settings = second.settings ∙ first.settings;
  phase = second.phase ∙ first.phase;
  prefix = second.prefix ∙ first.prefix;
  notes = second.notes ∙ first.notes;
  writes = second.writes ∙ first.writes;
  hooks = second.hooks ∙ first.hooks;
  laters = second.laters ∙ first.laters;
  saved = second.saved ∙ first.saved;
  turn = second.turn ∙ first.turn;
  ending = second.ending ∙ first.ending;
  stage = second.stage ∙ first.stage;
}

-- ---- one access

-- It has made its first access.
unfoldable HasStarted : Stage → Type 0
HasStarted Announce = ⊥
HasStarted stage = Unit {0}

-- It stands where it stood.
stays : {t : Attempt} {phase : Phase} {prefix : ℕ} {notes : List Note} {writes : List Write} {hooks : Handlers} {laters : List ℕ} {saved : List Book} {ending : Option Ending} {due : List Due}
    → Keeps t (record t { phase = phase; prefix = prefix; notes = notes; now = record { writes = writes; hooks = hooks; laters = laters; runs = t.now.runs }; saved = saved; ending = ending; due = due })
stays = record { own = refl; serial = refl; settings = refl; turn = refl; rings = refl; runs = refl; started = λ has. has }

-- It goes to another stage.
to : {t : Attempt} {u : Attempt} {stage : Stage} → Keeps t u → HasStarted stage → Keeps t (at u stage)
unfolding HasStarted
to keeps has = record { own = keeps.own; serial = keeps.serial; settings = keeps.settings; turn = keeps.turn; rings = keeps.rings; runs = keeps.runs; started = λ first is. rw is at has }

goes : {t : Attempt} {phase : Phase} {prefix : ℕ} {notes : List Note} {writes : List Write} {hooks : Handlers} {laters : List ℕ} {saved : List Book} {ending : Option Ending} {due : List Due} {stage : Stage}
    → HasStarted stage → Keeps t (record t { phase = phase; prefix = prefix; notes = notes; now = record { writes = writes; hooks = hooks; laters = laters; runs = t.now.runs }; saved = saved; ending = ending; due = due; stage = stage })
goes has = to stays has

if_keeps : {t : Attempt} (b : Bool) (u v : Attempt) → Keeps t u → Keeps t v → Keeps t (if b then u else v)
if_keeps true u v first second = first
if_keeps false u v first second = second

read_keeps : (t : Attempt) (cell left : ℕ) (cause : Cause) → Keeps t (read_again t cell left cause)
unfolding HasStarted
read_keeps t cell zero cause = goes tt
read_keeps t cell (suc left) cause = goes tt

looked_keeps : (t : Attempt) (cell left : ℕ) (first : Meta) → Keeps t (meta_read t cell left first)
unfolding meta_read HasStarted
looked_keeps t cell left first =
    if_keeps (changing_by_another t.own first) _ _ (read_keeps t cell left _) (if_keeps (nat_lt t.prefix first.version) _ _ (goes tt) (goes tt))

extend_keeps : (t : Attempt) (cell left : ℕ) (first : Meta) (clock : ℕ) (behind : List Note) → Keeps t (extend_on t cell left first clock behind)
unfolding HasStarted
extend_keeps t cell left first clock [] = goes tt
extend_keeps t cell left first clock (note ∷ behind) = goes tt

again_keeps : (t : Attempt) (cell value left : ℕ) (tried : Bool) (first latest : Meta) → Keeps t (acquire_again t cell value left tried first latest)
unfolding HasStarted
again_keeps t cell value zero tried first latest = goes tt
again_keeps t cell value (suc left) tried first latest = goes tt

acquiring_keeps : (t : Attempt) (cell value left : ℕ) (tried : Bool) (first : Meta) → Keeps t (acquiring t cell value left tried first)
unfolding acquiring HasStarted
acquiring_keeps t cell value left tried first =
    if_keeps (owned_by_another t.own first) _ _
    (if_keeps (dooms t.settings.policy && not tried) _ _ (goes tt) (again_keeps t cell value left tried first first))
    (if_keeps (nat_eq first.owner 0) _ _ (goes tt) (again_keeps t cell value left tried first first))

acquired_keeps : (t : Attempt) (cell value left : ℕ) (tried : Bool) (note : Option Note) (first : Meta) → Keeps t (meta_acquired t cell value left tried note first)
unfolding HasStarted
acquired_keeps t cell value left tried None first = acquiring_keeps t cell value left tried first
acquired_keeps t cell value left tried (Some note) first = if_keeps (nat_eq note.version first.version) _ _ (acquiring_keeps t cell value left tried first) (goes tt)

exchanged_keeps : (t : Attempt) (cell value left : ℕ) (tried : Bool) (first expected : Meta) (again : Bool) (found : Meta)
    → Keeps t (exchanged t cell value left tried first expected again found)
unfolding exchanged HasStarted
exchanged_keeps t cell value left tried first expected again found =
    if_keeps (same_meta found expected) _ _ (goes tt)
    (if_keeps (not again && same_but_pending found expected) _ _ (goes tt) (again_keeps t cell value left tried first found))

level_keeps : (t u : Attempt) → Keeps t u → (kept behind : List Write) → Keeps t (release_level_on u kept behind)
unfolding HasStarted
level_keeps t u keeps kept [] = keeps_then t u _ keeps (go u.saved)
  where
    go : (levels : List Book) → Keeps u (record u { now = returned levels u.now; saved = outer levels; due = u.due ++ run_all (level_runs levels u.now); stage = Ready None })
    go [] = goes tt
    go (former ∷ books) = goes tt
level_keeps t u keeps kept (write ∷ behind) = to keeps tt

roll_keeps : (t u : Attempt) → Keeps t u → (behind : List Write) → Keeps t (roll_on u behind)
unfolding HasStarted
roll_keeps t u keeps [] = to keeps tt
roll_keeps t u keeps (write ∷ behind) = to keeps tt

rolled_keeps : (t u : Attempt) → Keeps t u → (cause : Cause) → Keeps t (rolled u cause)
rolled_keeps t u keeps cause = roll_keeps t (record u { ending = Some (Rolled cause u.prefix) }) (keeps_then t u _ keeps stays) u.now.writes

release_keeps : (t u : Attempt) → Keeps t u → (behind : List Write) → Keeps t (release_on u behind)
unfolding HasStarted
release_keeps t u keeps [] = to keeps tt
release_keeps t u keeps (write ∷ behind) = to keeps tt

store_keeps : (t u : Attempt) → Keeps t u → (behind : List Write) → Keeps t (store_on u behind)
unfolding HasStarted
store_keeps t u keeps [] = release_keeps t u keeps u.now.writes
store_keeps t u keeps (write ∷ behind) = to keeps tt

mark_keeps : (t u : Attempt) → Keeps t u → (behind : List Write) → Keeps t (mark_on u behind)
unfolding HasStarted
mark_keeps t u keeps [] = to keeps tt
mark_keeps t u keeps (write ∷ behind) = to keeps tt

validate_keeps : (t : Attempt) (lost clock : ℕ) (behind : List Note) → Keeps t (validate_on t lost clock behind)
unfolding validate_on HasStarted
validate_keeps t lost clock [] = if_keeps (nat_eq clock t.settings.clock) _ _ (rolled_keeps t (record t { prefix = clock }) stays _) (goes tt)
validate_keeps t lost clock (note ∷ behind) = goes tt

decided_keeps : (t : Attempt) (lost clock found : ℕ) → Keeps t (decided t lost clock found)
unfolding decided HasStarted
decided_keeps t lost clock found =
    if_keeps (nat_eq found clock) _ _ (store_keeps t (record t { ending = Some (Committed (suc clock)); due = run_all (committing t.now.hooks) }) stays t.now.writes)
    (if_keeps (nat_lt lost t.settings.tries) _ _ (goes tt) (rolled_keeps t t stays _))

keeps_at : (t : Attempt) (stage : Stage) (answer : Answer) → Keeps t (after_at t stage answer)
unfolding after_at extended validated owner_status_loaded owner_validated prepared note_validated HasStarted
keeps_at t Announce (OfStatus found) = goes tt
keeps_at t Begin (Number clock) = goes tt
keeps_at t (ReadMeta cell left) (OfMeta found) = looked_keeps t cell left found
keeps_at t (ExtendClock cell left first) (Number clock) = extend_keeps t cell left first clock t.notes
keeps_at t (ExtendNote cell left first clock note behind) (OfMeta found) =
    if_keeps (still_has t.own note.version found) _ _ (extend_keeps t cell left first clock behind) (goes tt)
keeps_at t (ReadValue cell left first) (Number value) = goes tt
keeps_at t (Validate cell left first value) (OfMeta found) = if_keeps (still_has t.own first.version found) _ _ (goes tt) (read_keeps t cell left _)
keeps_at t (AcquireMeta cell value left tried) (OfMeta found) = acquired_keeps t cell value left tried (note_of t.notes cell) found
keeps_at t (Acquire cell value left tried first expected again) (OfMeta found) = exchanged_keeps t cell value left tried first expected again found
keeps_at t (OwnerStatus cell value left first) (OfStatus found) = if_keeps (is_active found.phase) _ _ (goes tt) (again_keeps t cell value left true first first)
keeps_at t (OwnerMeta cell value left first status) (OfMeta found) =
    if_keeps (nat_eq found.owner first.owner && not found.changing) _ _ (goes tt) (again_keeps t cell value left true first found)
keeps_at t (DoomOwner cell value left first second status) (OfStatus found) = again_keeps t cell value left true first second
keeps_at t (ReleaseLevel kept write behind) (OfMeta found) = level_keeps t (record t { due = ring_if found.pending write.0 }) stays kept behind
keeps_at t Prepare (OfStatus found) =
    if_keeps (same_status found (active t.serial)) _ _ (mark_keeps t (record t { phase = Preparing; due = run_all (preparing t.now.hooks) }) stays t.now.writes) (rolled_keeps t t stays _)
keeps_at t (Mark write behind) (OfMeta found) = mark_keeps t t stays behind
keeps_at t (CommitClock lost) (Number clock) = validate_keeps t lost clock t.notes
keeps_at t (CommitNote lost clock note behind) (OfMeta found) =
    if_keeps (still_has t.own note.version found) _ _ (validate_keeps t lost clock behind) (rolled_keeps t t stays _)
keeps_at t (Decide lost clock) (Number found) = decided_keeps t lost clock found
keeps_at t (StoreValues write behind) (Number found) = store_keeps t t stays behind
keeps_at t (Release write behind) (OfMeta found) = release_keeps t (record t { due = ring_if found.pending write.0 }) stays behind
keeps_at t (RollBack write behind) (OfMeta found) = roll_keeps t (record t { due = ring_if found.pending write.0 }) stays behind
keeps_at t Close (OfStatus found) = goes tt
keeps_at t stage answer = stays

pub keeps_after : (t : Attempt) (answer : Answer) → Keeps t (after t answer)
keeps_after t answer = keeps_at t t.stage answer

found_keeps : (t : Attempt) (act : Option Act) (word : ℕ) → Keeps t (after_found t act word)
found_keeps t None word = keeps_same t
found_keeps t (Some act) word = keeps_after t (answer_of act word)

pub keeps_word : (t : Attempt) (word : ℕ) → Keeps t (after_word t word)
keeps_word t word = found_keeps t (next t) word

-- ---- what is due

pub rest_did : (t : Attempt) (due : List Due) → KeepsRest t (did_first t due)
rest_did t [] = rest_same t
rest_did t (Run phase token ∷ dues) = rest_is refl
rest_did t (Ring cell ∷ dues) = rest_is refl

pub rest_does : (t : Attempt) → KeepsRest t (moved t Does)
unfolding moved
rest_does t = rest_did t t.due

-- ---- asks

noted_keeps : (t : Attempt) (cell : ℕ) (note : Option Note) → Keeps t (read_noted t cell note)
unfolding HasStarted
noted_keeps t cell None = goes tt
noted_keeps t cell (Some note) = goes tt

buffered_keeps : (t : Attempt) (cell : ℕ) (value : Option ℕ) → Keeps t (read_buffered t cell value)
unfolding HasStarted
buffered_keeps t cell None = noted_keeps t cell (note_of t.notes cell)
buffered_keeps t cell (Some value) = goes tt

undo_keeps : (t : Attempt) (levels : List Book) → Keeps t (undo_level t levels)
undo_keeps t [] = stays
undo_keeps t (former ∷ books) = level_keeps t t stays former.writes (drop (length former.writes) t.now.writes)

conclude_keeps : (t : Attempt) (writes : List Write) → Keeps t (conclude t writes)
unfolding HasStarted
conclude_keeps t [] = goes tt
conclude_keeps t (write ∷ writes) = goes tt

turn_keeps : (t : Attempt) (tokens : List ℕ) → KeepsCalls t (turn_to t tokens)
unfolding HasStarted
turn_keeps t [] = calls_of t _ (conclude_keeps t t.now.writes)
turn_keeps t (token ∷ tokens) = record { own = refl; serial = refl; settings = refl; rings = refl; runs = refl; started = λ first is. cc }

going_keeps : (t : Attempt) (ask : Ask) → ask ≢ Finish → Keeps t (asked_going t ask)
unfolding asked_going HasStarted
going_keeps t (Get cell) other = buffered_keeps t cell.0 (lookup (nat_eq cell.0) t.now.writes)
going_keeps t (Set cell value) other = if_keeps (writes_to t.now.writes cell.0) _ _ (goes tt) (goes tt)
going_keeps t Enter other = if_keeps (nat_lt (length t.saved) deepest) _ _ (goes tt) (goes tt)
going_keeps t Keep other = goes tt
going_keeps t Undo other = undo_keeps t t.saved
going_keeps t (Hook phase token) other = goes tt
going_keeps t (Later token) other = goes tt
going_keeps t Finish other = absurd (other refl)
going_keeps t (Abandon cause) other = rolled_keeps t t stays cause

stopped_keeps : (t : Attempt) (cause : Cause) (ask : Ask) → Keeps t (asked_stopped t cause ask)
unfolding asked_stopped
stopped_keeps t cause Keep = stays
stopped_keeps t cause Undo = stays
stopped_keeps t cause Finish = rolled_keeps t t stays cause
stopped_keeps t cause (Abandon other) = rolled_keeps t t stays cause
stopped_keeps t cause ask = stays

asked_keeps : (t : Attempt) (stage : Stage) (ask : Ask) → ask ≢ Finish → Keeps t (asked_at t stage ask)
unfolding asked_at
asked_keeps t (Ready told) ask other = going_keeps t ask other
asked_keeps t (Late token) ask other = going_keeps t ask other
asked_keeps t (Stopped cause) ask other = stopped_keeps t cause ask
asked_keeps t stage ask other = stays

-- Only when a body is over another one has its turn.
pub keeps_asked : (t : Attempt) (ask : Ask) → ask ≢ Finish → Keeps t (moved t (Takes ask))
unfolding moved
keeps_asked t ask other = asked_keeps t t.stage ask other

finish_keeps : (t : Attempt) (stage : Stage) → KeepsCalls t (asked_at t stage Finish)
unfolding asked_at asked_going asked_stopped
finish_keeps t (Ready told) = turn_keeps t (drop t.turn t.now.laters)
finish_keeps t (Late token) = turn_keeps t (drop t.turn t.now.laters)
finish_keeps t (Stopped cause) = calls_of t _ (rolled_keeps t t stays cause)
finish_keeps t stage = calls_same t

finish_moved : (t : Attempt) → KeepsCalls t (moved t (Takes Finish))
unfolding moved
finish_moved t = finish_keeps t t.stage

pub calls_asked : (t : Attempt) (ask : Ask) → KeepsCalls t (moved t (Takes ask))
calls_asked t Finish = finish_moved t
calls_asked t ask = calls_of t _ (keeps_asked t ask (λ is. cc is))

pub keeps_out : (t : Attempt) (ask : Ask) → Keeps t (moved t (OutOfMemory ask))
unfolding moved HasStarted
keeps_out t ask = goes tt

late_keeps : (t : Attempt) (stage : Stage) → KeepsCalls t (late_over_at t stage)
unfolding late_over_at
late_keeps t (Ready told) = turn_keeps t (drop t.turn t.now.laters)
late_keeps t (Late token) = turn_keeps t (drop t.turn t.now.laters)
late_keeps t (Stopped cause) = calls_of t _ (rolled_keeps t t stays cause)
late_keeps t stage = calls_same t

pub keeps_late : (t : Attempt) → KeepsCalls t (moved t EndsLate)
unfolding moved
keeps_late t = late_keeps t t.stage
