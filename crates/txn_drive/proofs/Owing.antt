-- When an attempt meets what is owed before it exchanges the clock. Here t is an attempt.
use Rattle.std.proofs.Common.{◌≡◌, ◌≢◌, ℕ, zero, suc, ◌⊎◌, inl, inr, Bool, true, false, not, ◌&&◌, nat_eq, nat_lt, if◌then◌else◌, List, [], ◌∷◌, drop, length, Option, Some, None, refl, sym, subst, ◌∙◌}
use Rattle.std.specs.Map.{lookup}
use Rattle.meta_word.specs.Meta.{changing_by_another, owned_by_another, same_but_pending, same_meta, still_has}
use Rattle.meta_word.specs.Policy.{dooms}
use Rattle.meta_word.specs.Status.{same_status}
use Rattle.meta_word.specs.declared.meta.Meta.{Meta}
use Rattle.meta_word.specs.declared.status.Phase.TheVariants.{Preparing}
use Rattle.stm_model.specs.Accesses.{Answer, ExchangeClock, Number, OfMeta, OfStatus, active, next, next_at, unless_due}
use Rattle.stm_model.specs.After.{acquire_again, acquiring, after, after_at, decided, exchanged, extend_on, extended, is_active, mark_on, meta_acquired, meta_read, note_of, note_validated, owner_status_loaded, owner_validated, prepared, read_again, release_level_on, release_on, ring_if, roll_on, rolled, run_all, store_on, validate_on, validated}
use Rattle.stm_model.specs.Attempt.{Attempt, Due, Run, Ring, Stage, Write, Announce, Begin, Ready, Late, Stopped, ReadMeta, ExtendClock, ExtendNote, ReadValue, Validate, AcquireMeta, Acquire, OwnerStatus, OwnerMeta, DoomOwner, ReleaseLevel, Prepare, Mark, CommitClock, CommitNote, Decide, StoreValues, Release, RollBack, Close, Ended, cause_at}
use Rattle.stm_model.specs.CellsState.{Book}
use Rattle.stm_model.specs.HandlerRuns.{DoesDue, Finds, Step, found_unless_due, led, stepped}
use Rattle.stm_model.specs.Handlers.{Handlers, committing, preparing}
use Rattle.stm_model.specs.Heap.{writes_to}
use Rattle.stm_model.specs.Moves.{AwaitsAskAt, EndsLate, OutOfMemory, Takes, asked_at, asked_going, asked_stopped, conclude, did_first, late_over_at, moved, read_buffered, read_noted, turn_to, undo_level}
use Rattle.stm_model.specs.Owes.{Owes}
use Rattle.stm_model.specs.Refusing.{deepest}
use Rattle.stm_model.specs.declared.access.Ask.{Ask}
use Rattle.stm_model.specs.declared.access.Ask.TheVariants.{Abandon, Enter, Finish, Get, Set, Undo}
use Rattle.stm_model.specs.declared.cause.Cause.{Cause}
use Rattle.stm_model.specs.declared.ending.Ending.TheVariants.{Committed, Rolled}
use Rattle.stm_model.specs.declared.note.Note.{Note}
use Rattle.txn_drive.specs.Paying.{Pays}

-- ---- its steps

-- What each answer keeps, and each thing that is done, is kept over steps.
module _ (P : Attempt → Type 0) (answers : (t : Attempt) (answer : Answer) → P t → P (after t answer)) (does : (t : Attempt) (due : List Due) → P t → P (did_first t due)) where
  found_step : (t : Attempt) (due : List Due) (answer : Answer) → P t → P (found_unless_due t due answer)
  found_step t [] answer holds = answers t answer holds
  found_step t (first ∷ due) answer holds = holds

  over_step : (t : Attempt) (step : Step) → P t → P (stepped t step)
  unfolding stepped
  over_step t (Finds answer) holds = found_step t t.due answer holds
  over_step t DoesDue holds = does t t.due holds

  pub over_steps : (t : Attempt) (steps : List Step) → P t → P (led t steps)
  over_steps t [] holds = holds
  over_steps t (step ∷ steps) holds = over_steps (stepped t step) steps (over_step t step holds)

-- ---- who doesn't commit

-- It does not stand between the begin of a commit and its decision.
unfoldable pub IsCalm : Stage → Type 0
IsCalm Prepare = ⊥
IsCalm (Mark write behind) = ⊥
IsCalm (CommitClock lost) = ⊥
IsCalm (CommitNote lost clock note behind) = ⊥
IsCalm (Decide lost clock) = ⊥
IsCalm stage = Unit {0}

abbrev Calm : Attempt → Type 0
Calm t = IsCalm t.stage

if_calm : (b : Bool) (t u : Attempt) → Calm t → Calm u → Calm (if b then t else u)
if_calm true t u first second = first
if_calm false t u first second = second

read_calm : (t : Attempt) (cell left : ℕ) (cause : Cause) → Calm (read_again t cell left cause)
unfolding IsCalm
read_calm t cell zero cause = tt
read_calm t cell (suc left) cause = tt

extend_calm : (t : Attempt) (cell left : ℕ) (first : Meta) (clock : ℕ) (behind : List Note) → Calm (extend_on t cell left first clock behind)
unfolding IsCalm
extend_calm t cell left first clock [] = tt
extend_calm t cell left first clock (note ∷ behind) = tt

again_calm : (t : Attempt) (cell value left : ℕ) (tried : Bool) (first latest : Meta) → Calm (acquire_again t cell value left tried first latest)
unfolding IsCalm
again_calm t cell value zero tried first latest = tt
again_calm t cell value (suc left) tried first latest = tt

acquiring_calm : (t : Attempt) (cell value left : ℕ) (tried : Bool) (first : Meta) → Calm (acquiring t cell value left tried first)
unfolding acquiring IsCalm
acquiring_calm t cell value left tried first =
    if_calm (owned_by_another t.own first) _ _
    (if_calm (dooms t.settings.policy && not tried) _ _ tt (again_calm t cell value left tried first first))
    (if_calm (nat_eq first.owner 0) _ _ tt (again_calm t cell value left tried first first))

acquired_calm : (t : Attempt) (cell value left : ℕ) (tried : Bool) (note : Option Note) (first : Meta) → Calm (meta_acquired t cell value left tried note first)
unfolding IsCalm
acquired_calm t cell value left tried None first = acquiring_calm t cell value left tried first
acquired_calm t cell value left tried (Some note) first = if_calm (nat_eq note.version first.version) _ _ (acquiring_calm t cell value left tried first) tt

level_calm : (t : Attempt) (kept behind : List Write) → Calm (release_level_on t kept behind)
unfolding IsCalm
level_calm t kept [] = tt
level_calm t kept (write ∷ behind) = tt

roll_calm : (t : Attempt) (behind : List Write) → Calm (roll_on t behind)
unfolding IsCalm
roll_calm t [] = tt
roll_calm t (write ∷ behind) = tt

pub rolled_calm : (t : Attempt) (cause : Cause) → IsCalm (rolled t cause).stage
rolled_calm t cause = roll_calm (record t { ending = Some (Rolled cause t.prefix) }) t.now.writes

release_calm : (t : Attempt) (behind : List Write) → Calm (release_on t behind)
unfolding IsCalm
release_calm t [] = tt
release_calm t (write ∷ behind) = tt

store_calm : (t : Attempt) (behind : List Write) → Calm (store_on t behind)
unfolding IsCalm
store_calm t [] = release_calm t t.now.writes
store_calm t (write ∷ behind) = tt

calm_at : (t : Attempt) (stage : Stage) (answer : Answer) → t.stage ≡ stage → IsCalm stage → Calm (after_at t stage answer)
unfolding after_at meta_read extended validated exchanged owner_status_loaded owner_validated IsCalm
calm_at t Announce (OfStatus found) is calm = tt
calm_at t Begin (Number clock) is calm = tt
calm_at t (ReadMeta cell left) (OfMeta found) is calm =
    if_calm (changing_by_another t.own found) _ _ (read_calm t cell left _) (if_calm (nat_lt t.prefix found.version) _ _ tt tt)
calm_at t (ExtendClock cell left first) (Number clock) is calm = extend_calm t cell left first clock t.notes
calm_at t (ExtendNote cell left first clock note behind) (OfMeta found) is calm =
    if_calm (still_has t.own note.version found) _ _ (extend_calm t cell left first clock behind) tt
calm_at t (ReadValue cell left first) (Number value) is calm = tt
calm_at t (Validate cell left first value) (OfMeta found) is calm = if_calm (still_has t.own first.version found) _ _ tt (read_calm t cell left _)
calm_at t (AcquireMeta cell value left tried) (OfMeta found) is calm = acquired_calm t cell value left tried (note_of t.notes cell) found
calm_at t (Acquire cell value left tried first expected again) (OfMeta found) is calm =
    if_calm (same_meta found expected) _ _ tt
    (if_calm (not again && same_but_pending found expected) _ _ tt (again_calm t cell value left tried first found))
calm_at t (OwnerStatus cell value left first) (OfStatus found) is calm = if_calm (is_active found.phase) _ _ tt (again_calm t cell value left true first first)
calm_at t (OwnerMeta cell value left first status) (OfMeta found) is calm =
    if_calm (nat_eq found.owner first.owner && not found.changing) _ _ tt (again_calm t cell value left true first found)
calm_at t (DoomOwner cell value left first second status) (OfStatus found) is calm = again_calm t cell value left true first second
calm_at t (ReleaseLevel kept write behind) (OfMeta found) is calm = level_calm (record t { due = ring_if found.pending write.0 }) kept behind
calm_at t (StoreValues write behind) (Number found) is calm = store_calm t behind
calm_at t (Release write behind) (OfMeta found) is calm = release_calm (record t { due = ring_if found.pending write.0 }) behind
calm_at t (RollBack write behind) (OfMeta found) is calm = roll_calm (record t { due = ring_if found.pending write.0 }) behind
calm_at t Close (OfStatus found) is calm = tt
calm_at t Prepare answer is calm = absurd calm
calm_at t (Mark write behind) answer is calm = absurd calm
calm_at t (CommitClock lost) answer is calm = absurd calm
calm_at t (CommitNote lost clock note behind) answer is calm = absurd calm
calm_at t (Decide lost clock) answer is calm = absurd calm
calm_at t stage answer is calm = rw is tt

pub calm_after : (t : Attempt) (answer : Answer) → IsCalm t.stage → IsCalm (after t answer).stage
calm_after t answer calm = calm_at t t.stage answer refl calm

pub calm_did : (t : Attempt) (due : List Due) → IsCalm t.stage → IsCalm (did_first t due).stage
calm_did t [] calm = calm
calm_did t (Run phase token ∷ dues) calm = calm
calm_did t (Ring cell ∷ dues) calm = calm

pub calm_stepped : (t : Attempt) (step : Step) → IsCalm t.stage → IsCalm (stepped t step).stage
calm_stepped = over_step Calm calm_after calm_did

pub calm_led : (t : Attempt) (steps : List Step) → IsCalm t.stage → IsCalm (led t steps).stage
calm_led = over_steps Calm calm_after calm_did

exchange_at : (t : Attempt) (stage : Stage) (old : ℕ) → IsCalm stage → next_at t stage ≢ Some (ExchangeClock old)
unfolding next_at IsCalm
exchange_at t (Decide lost clock) old calm is = absurd calm
exchange_at t stage old calm is = cc is

exchange_due : (t : Attempt) (due : List Due) (old : ℕ) → IsCalm t.stage → unless_due due (next_at t t.stage) ≢ Some (ExchangeClock old)
exchange_due t [] old calm is = exchange_at t t.stage old calm is
exchange_due t (first ∷ due) old calm is = cc is

pub calm_next : (t : Attempt) (old : ℕ) → IsCalm t.stage → next t ≢ Some (ExchangeClock old)
calm_next t old calm is = exchange_due t t.due old calm is

-- ---- who has ended its body

-- It commits or is rolled back, or is over.
unfoldable pub IsClosing : Stage → Type 0
IsClosing Prepare = Unit {0}
IsClosing (Mark write behind) = Unit {0}
IsClosing (CommitClock lost) = Unit {0}
IsClosing (CommitNote lost clock note behind) = Unit {0}
IsClosing (Decide lost clock) = Unit {0}
IsClosing (StoreValues write behind) = Unit {0}
IsClosing (Release write behind) = Unit {0}
IsClosing (RollBack write behind) = Unit {0}
IsClosing Close = Unit {0}
IsClosing Ended = Unit {0}
IsClosing stage = ⊥

-- A before-commit body has its turn.
unfoldable pub IsLate : Stage → Type 0
IsLate (Late token) = Unit {0}
IsLate stage = ⊥

-- Its body is over: it commits or is rolled back, or a before-commit body has its turn.
abbrev pub IsPast : Stage → Type 0
IsPast stage = IsClosing stage ⊎ IsLate stage

-- It stands so, with these notes, writes and handlers.
pub record Has (Stands : Stage → Type 0) (reads : List Note) (written : List Write) (hooked : Handlers) (later : List ℕ) (t : Attempt) : Type 0 where
  pub stands : Stands t.stage
  pub notes : t.notes ≡ reads
  pub writes : t.now.writes ≡ written
  pub hooks : t.now.hooks ≡ hooked
  pub laters : t.now.laters ≡ later

-- It stands so, with those of another.
abbrev pub HasOf : (Stage → Type 0) → Attempt → Attempt → Type 0
HasOf Stands t u = Has Stands t.notes t.now.writes t.now.hooks t.now.laters u

-- It closes, and keeps these.
abbrev pub Closes : Attempt → Attempt → Type 0
Closes t u = HasOf IsClosing t u

-- Its body is over, and it keeps these.
abbrev pub Passes : Attempt → Attempt → Type 0
Passes t u = HasOf IsPast t u

has : {Stands : Stage → Type 0} {t : Attempt} → Stands t.stage → HasOf Stands t t
has stands = record { stands = stands; notes = refl; writes = refl; hooks = refl; laters = refl }

-- Who stands so after each answer does after all steps, with the same.
module _ (Stands : Stage → Type 0) (answers : (t : Attempt) (answer : Answer) → Stands t.stage → HasOf Stands t (after t answer))
    (reads : List Note) (written : List Write) (hooked : Handlers) (later : List ℕ) where
  has_then : (t u : Attempt) → Has Stands reads written hooked later t → HasOf Stands t u → Has Stands reads written hooked later u
  has_then t u first second = record {
    stands = second.stands;
    notes = second.notes ∙ first.notes;
    writes = second.writes ∙ first.writes;
    hooks = second.hooks ∙ first.hooks;
    laters = second.laters ∙ first.laters;
  }

  has_after : (t : Attempt) (answer : Answer) → Has Stands reads written hooked later t → Has Stands reads written hooked later (after t answer)
  has_after t answer from = has_then t (after t answer) from (answers t answer from.stands)

  has_did : (t : Attempt) (due : List Due) → Has Stands reads written hooked later t → Has Stands reads written hooked later (did_first t due)
  has_did t [] from = from
  has_did t (Run phase token ∷ dues) from = record { stands = from.stands; notes = from.notes; writes = from.writes; hooks = from.hooks; laters = from.laters }
  has_did t (Ring cell ∷ dues) from = record { stands = from.stands; notes = from.notes; writes = from.writes; hooks = from.hooks; laters = from.laters }

  has_led : (t : Attempt) (steps : List Step) → Has Stands reads written hooked later t → Has Stands reads written hooked later (led t steps)
  has_led = over_steps (Has Stands reads written hooked later) has_after has_did

if_closes : {reads : List Note} {written : List Write} {hooked : Handlers} {later : List ℕ} (b : Bool) (t u : Attempt)
    → Has IsClosing reads written hooked later t → Has IsClosing reads written hooked later u → Has IsClosing reads written hooked later (if b then t else u)
if_closes true t u first second = first
if_closes false t u first second = second

roll_closes : (t : Attempt) (behind : List Write) → Closes t (roll_on t behind)
unfolding IsClosing
roll_closes t [] = has tt
roll_closes t (write ∷ behind) = has tt

pub rolled_closes : (t : Attempt) (cause : Cause) → Closes t (rolled t cause)
rolled_closes t cause = roll_closes (record t { ending = Some (Rolled cause t.prefix) }) t.now.writes

release_closes : (t : Attempt) (behind : List Write) → Closes t (release_on t behind)
unfolding IsClosing
release_closes t [] = has tt
release_closes t (write ∷ behind) = has tt

store_closes : (t : Attempt) (behind : List Write) → Closes t (store_on t behind)
unfolding IsClosing
store_closes t [] = release_closes t t.now.writes
store_closes t (write ∷ behind) = has tt

mark_closes : (t : Attempt) (behind : List Write) → Closes t (mark_on t behind)
unfolding IsClosing
mark_closes t [] = has tt
mark_closes t (write ∷ behind) = has tt

validate_closes : (t : Attempt) (lost clock : ℕ) (behind : List Note) → Closes t (validate_on t lost clock behind)
unfolding validate_on IsClosing
validate_closes t lost clock [] = if_closes (nat_eq clock t.settings.clock) _ _ (rolled_closes (record t { prefix = clock }) _) (has tt)
validate_closes t lost clock (note ∷ behind) = has tt

decided_closes : (t : Attempt) (lost clock found : ℕ) → Closes t (decided t lost clock found)
unfolding decided IsClosing
decided_closes t lost clock found =
    if_closes (nat_eq found clock) _ _ (store_closes (record t { ending = Some (Committed (suc clock)); due = run_all (committing t.now.hooks) }) t.now.writes)
    (if_closes (nat_lt lost t.settings.tries) _ _ (has tt) (rolled_closes t _))

closes_at : (t : Attempt) (stage : Stage) (answer : Answer) → t.stage ≡ stage → IsClosing stage → Closes t (after_at t stage answer)
unfolding after_at IsClosing prepared note_validated
closes_at t Prepare (OfStatus found) is closing =
    if_closes (same_status found (active t.serial)) _ _ (mark_closes (record t { phase = Preparing; due = run_all (preparing t.now.hooks) }) t.now.writes) (rolled_closes t _)
closes_at t (Mark write behind) (OfMeta found) is closing = mark_closes t behind
closes_at t (CommitClock lost) (Number clock) is closing = validate_closes t lost clock t.notes
closes_at t (CommitNote lost clock note behind) (OfMeta found) is closing =
    if_closes (still_has t.own note.version found) _ _ (validate_closes t lost clock behind) (rolled_closes t _)
closes_at t (Decide lost clock) (Number found) is closing = decided_closes t lost clock found
closes_at t (StoreValues write behind) (Number found) is closing = store_closes t behind
closes_at t (Release write behind) (OfMeta found) is closing = release_closes (record t { due = ring_if found.pending write.0 }) behind
closes_at t (RollBack write behind) (OfMeta found) is closing = roll_closes (record t { due = ring_if found.pending write.0 }) behind
closes_at t Close (OfStatus found) is closing = has tt
closes_at t Announce answer is closing = absurd closing
closes_at t Begin answer is closing = absurd closing
closes_at t (ReadMeta cell left) answer is closing = absurd closing
closes_at t (ExtendClock cell left first) answer is closing = absurd closing
closes_at t (ExtendNote cell left first clock note behind) answer is closing = absurd closing
closes_at t (ReadValue cell left first) answer is closing = absurd closing
closes_at t (Validate cell left first value) answer is closing = absurd closing
closes_at t (AcquireMeta cell value left tried) answer is closing = absurd closing
closes_at t (Acquire cell value left tried first expected again) answer is closing = absurd closing
closes_at t (OwnerStatus cell value left first) answer is closing = absurd closing
closes_at t (OwnerMeta cell value left first status) answer is closing = absurd closing
closes_at t (DoomOwner cell value left first second status) answer is closing = absurd closing
closes_at t (ReleaseLevel kept write behind) answer is closing = absurd closing
closes_at t stage answer is closing = has (rw is closing)

closes_after : (t : Attempt) (answer : Answer) → IsClosing t.stage → Closes t (after t answer)
closes_after t answer closing = closes_at t t.stage answer refl closing

pub closes_led : (t u : Attempt) (steps : List Step) → Closes t u → Closes t (led u steps)
closes_led t = has_led IsClosing closes_after t.notes t.now.writes t.now.hooks t.now.laters

-- No answer moves a before-commit body that has its turn.
late_at : (t : Attempt) (stage : Stage) (answer : Answer) → t.stage ≡ stage → IsLate stage → HasOf IsPast t (after_at t stage answer)
unfolding after_at IsLate
late_at t (Late token) answer is late = has (inr (rw is tt))
late_at t stage answer is late = absurd late

past_of : (t u : Attempt) → Closes t u → Passes t u
past_of t u closes = record { stands = inl closes.stands; notes = closes.notes; writes = closes.writes; hooks = closes.hooks; laters = closes.laters }

past_after : (t : Attempt) (answer : Answer) → IsPast t.stage → Passes t (after t answer)
past_after t answer (inl closing) = past_of t _ (closes_after t answer closing)
past_after t answer (inr late) = late_at t t.stage answer refl late

pub past_led : (t u : Attempt) (steps : List Step) → Passes t u → Passes t (led u steps)
past_led t = has_led IsPast past_after t.notes t.now.writes t.now.hooks t.now.laters

-- ---- who meets what is owed

calm_or_closing : (stage : Stage) → IsCalm stage ⊎ IsClosing stage
unfolding IsCalm IsClosing
calm_or_closing Prepare = inr tt
calm_or_closing (Mark write behind) = inr tt
calm_or_closing (CommitClock lost) = inr tt
calm_or_closing (CommitNote lost clock note behind) = inr tt
calm_or_closing (Decide lost clock) = inr tt
calm_or_closing stage = inl tt

-- It doesn't commit, or commits with these notes and writes.
abbrev pub Firm : List Note → List Write → Attempt → Type 0
Firm notes writes t = IsCalm t.stage ⊎ ((t.notes ≡ notes) × (t.now.writes ≡ writes))

module _ (notes : List Note) (writes : List Write) where
  pub firm_after : (t : Attempt) (answer : Answer) → Firm notes writes t → Firm notes writes (after t answer)
  firm_after t answer (inl calm) = inl (calm_after t answer calm)
  firm_after t answer (inr same) = elim (calm_or_closing t.stage) [
    | inl calm ↦ inl (calm_after t answer calm)
    | inr closing ↦
        let next : Closes t (after t answer) = closes_after t answer closing in
        inr (next.notes ∙ same.0, next.writes ∙ same.1)
  ]

  pub firm_did : (t : Attempt) (due : List Due) → Firm notes writes t → Firm notes writes (did_first t due)
  firm_did t [] firm = firm
  firm_did t (Run phase token ∷ dues) firm = firm
  firm_did t (Ring cell ∷ dues) firm = firm

  pub firm_stepped : (t : Attempt) (step : Step) → Firm notes writes t → Firm notes writes (stepped t step)
  firm_stepped = over_step (Firm notes writes) firm_after firm_did

  pub firm_led : (t : Attempt) (steps : List Step) → Firm notes writes t → Firm notes writes (led t steps)
  firm_led = over_steps (Firm notes writes) firm_after firm_did

firm_conclude : (t : Attempt) (writes : List Write) → Firm t.notes t.now.writes (conclude t writes)
unfolding IsCalm
firm_conclude t [] = inl tt
firm_conclude t (write ∷ writes) = inr (refl, refl)

firm_turn : (t : Attempt) (tokens : List ℕ) → Firm t.notes t.now.writes (turn_to t tokens)
unfolding IsCalm
firm_turn t [] = firm_conclude t t.now.writes
firm_turn t (token ∷ tokens) = inl tt

module _ (lawful : List ℕ → Type 0) (may : List ℕ → List ℕ → Type 0) (size : ℕ) where
  firm_owes : (t : Attempt) (notes : List Note) (writes : List Write) (old : ℕ) → Firm notes writes t → next t ≡ Some (ExchangeClock old) → Owes lawful may size notes writes → Owes lawful may size t.notes t.now.writes
  firm_owes t notes writes old (inl calm) is owes = absurd (calm_next t old calm is)
  firm_owes t notes writes old (inr same) is owes = rw (same.0, same.1) owes

  pub firm_pays : (t : Attempt) (notes : List Note) (writes : List Write) → Firm notes writes t → Owes lawful may size notes writes → Pays lawful may size t
  firm_pays t notes writes firm owes later old leads is = firm_owes later notes writes old (subst (Firm notes writes) leads.reach (firm_led notes writes t leads.steps firm)) is owes

  pub calm_pays : (t : Attempt) → IsCalm t.stage → Pays lawful may size t
  calm_pays t calm later old leads is = absurd (calm_next later old (subst Calm leads.reach (calm_led t leads.steps calm)) is)

-- ---- what it is asked

noted_calm : (t : Attempt) (cell : ℕ) (note : Option Note) → Calm (read_noted t cell note)
unfolding IsCalm
noted_calm t cell None = tt
noted_calm t cell (Some note) = tt

buffered_calm : (t : Attempt) (cell : ℕ) (value : Option ℕ) → Calm (read_buffered t cell value)
unfolding IsCalm
buffered_calm t cell None = noted_calm t cell (note_of t.notes cell)
buffered_calm t cell (Some value) = tt

undo_calm : (t : Attempt) (levels : List Book) → Calm t → Calm (undo_level t levels)
undo_calm t [] calm = calm
undo_calm t (former ∷ books) calm = level_calm t former.writes (drop (length former.writes) t.now.writes)

going_calm : (t : Attempt) (ask : Ask) → Calm t → ask ≢ Finish → Calm (asked_going t ask)
unfolding asked_going IsCalm
going_calm t (Get cell) calm other = buffered_calm t cell.0 (lookup (nat_eq cell.0) t.now.writes)
going_calm t (Set cell value) calm other = if_calm (writes_to t.now.writes cell.0) _ _ tt tt
going_calm t Enter calm other = if_calm (nat_lt (length t.saved) deepest) _ _ tt tt
going_calm t Undo calm other = undo_calm t t.saved calm
going_calm t Finish calm other = absurd (other refl)
going_calm t (Abandon cause) calm other = rolled_calm t cause
going_calm t ask calm other = tt

stopped_calm : (t : Attempt) (cause : Cause) (ask : Ask) → Calm t → Calm (asked_stopped t cause ask)
unfolding asked_stopped
stopped_calm t cause Finish calm = rolled_calm t cause
stopped_calm t cause (Abandon other) calm = rolled_calm t cause
stopped_calm t cause ask calm = calm

asked_calm : (t : Attempt) (stage : Stage) (ask : Ask) → t.stage ≡ stage → AwaitsAskAt stage → ask ≢ Finish → Calm (asked_at t stage ask)
unfolding asked_at AwaitsAskAt IsCalm
asked_calm t (Ready told) ask is waits other = going_calm t ask (rw is tt) other
asked_calm t (Late token) ask is waits other = going_calm t ask (rw is tt) other
asked_calm t (Stopped cause) ask is waits other = stopped_calm t cause ask (rw is tt)
asked_calm t stage ask is waits other = absurd waits

pub calm_asked : (t : Attempt) (ask : Ask) → AwaitsAskAt t.stage → ask ≢ Finish → IsCalm (moved t (Takes ask)).stage
unfolding moved
calm_asked t ask waits other = asked_calm t t.stage ask refl waits other

ends_so : (t : Attempt) (stage : Stage) → AwaitsAskAt stage → late_over_at t stage ≡ asked_at t stage Finish
unfolding late_over_at asked_at asked_going asked_stopped AwaitsAskAt
ends_so t (Ready told) waits = refl
ends_so t (Late token) waits = refl
ends_so t (Stopped cause) waits = refl
ends_so t stage waits = absurd waits

-- The end of a before-commit body does what an ask to finish does.
pub late_finishes : (t : Attempt) → AwaitsAskAt t.stage → moved t EndsLate ≡ moved t (Takes Finish)
unfolding moved
late_finishes t waits = ends_so t t.stage waits

module _ (lawful : List ℕ → Type 0) (may : List ℕ → List ℕ → Type 0) (size : ℕ) (t : Attempt) where
  turn_pays : (tokens : List ℕ) → Owes lawful may size t.notes t.now.writes → Pays lawful may size (turn_to t tokens)
  turn_pays tokens owes = firm_pays lawful may size (turn_to t tokens) t.notes t.now.writes (firm_turn t tokens) owes

  finish_pays : (stage : Stage) → AwaitsAskAt stage → (cause_at stage ≡ None → Owes lawful may size t.notes t.now.writes) → Pays lawful may size (asked_at t stage Finish)
  unfolding asked_at asked_going asked_stopped AwaitsAskAt cause_at
  finish_pays (Ready told) waits owes = turn_pays (drop t.turn t.now.laters) (owes refl)
  finish_pays (Late token) waits owes = turn_pays (drop t.turn t.now.laters) (owes refl)
  finish_pays (Stopped cause) waits owes = calm_pays lawful may size (rolled t cause) (rolled_calm t cause)
  finish_pays stage waits owes = absurd waits

  pub ask_pays : (ask : Ask) → AwaitsAskAt t.stage → (ask ≡ Finish → cause_at t.stage ≡ None → Owes lawful may size t.notes t.now.writes) → Pays lawful may size (moved t (Takes ask))
  unfolding moved
  ask_pays Finish waits owes = finish_pays t.stage waits (owes refl)
  ask_pays ask waits owes = calm_pays lawful may size (moved t (Takes ask)) (calm_asked t ask waits (λ is. cc is))

  pub out_pays : (ask : Ask) → Pays lawful may size (moved t (OutOfMemory ask))
  unfolding moved IsCalm
  out_pays ask = calm_pays lawful may size (moved t (OutOfMemory ask)) tt

  pub late_pays : AwaitsAskAt t.stage → (cause_at t.stage ≡ None → Owes lawful may size t.notes t.now.writes) → Pays lawful may size (moved t EndsLate)
  late_pays waits owes = subst (λ u. Pays lawful may size u) (sym (late_finishes t waits)) (ask_pays Finish waits (λ is. owes))

-- ---- what stays, wherever it is led once a body is over

conclude_closes : (t : Attempt) (writes : List Write) → Closes t (conclude t writes)
unfolding IsClosing
conclude_closes t [] = has tt
conclude_closes t (write ∷ writes) = has tt

turn_closes : (t : Attempt) (tokens : List ℕ) → tokens ≡ [] → Closes t (turn_to t tokens)
turn_closes t [] none = conclude_closes t t.now.writes
turn_closes t (token ∷ tokens) none = absurd (cc none)

turn_passes : (t : Attempt) (tokens : List ℕ) → Passes t (turn_to t tokens)
unfolding IsLate
turn_passes t [] = past_of t _ (conclude_closes t t.now.writes)
turn_passes t (token ∷ tokens) = has (inr tt)

finish_closes : (t : Attempt) (stage : Stage) → AwaitsAskAt stage → (cause_at stage ≡ None → drop t.turn t.now.laters ≡ []) → Closes t (asked_at t stage Finish)
unfolding asked_at asked_going asked_stopped AwaitsAskAt cause_at
finish_closes t (Ready told) waits none = turn_closes t (drop t.turn t.now.laters) (none refl)
finish_closes t (Late token) waits none = turn_closes t (drop t.turn t.now.laters) (none refl)
finish_closes t (Stopped cause) waits none = rolled_closes t cause
finish_closes t stage waits none = absurd waits

finish_passes : (t : Attempt) (stage : Stage) → AwaitsAskAt stage → Passes t (asked_at t stage Finish)
unfolding asked_at asked_going asked_stopped AwaitsAskAt
finish_passes t (Ready told) waits = turn_passes t (drop t.turn t.now.laters)
finish_passes t (Late token) waits = turn_passes t (drop t.turn t.now.laters)
finish_passes t (Stopped cause) waits = past_of t _ (rolled_closes t cause)
finish_passes t stage waits = absurd waits

abandon_closes : (t : Attempt) (stage : Stage) (cause : Cause) → AwaitsAskAt stage → Closes t (asked_at t stage (Abandon cause))
unfolding asked_at asked_going asked_stopped AwaitsAskAt
abandon_closes t (Ready told) cause waits = rolled_closes t cause
abandon_closes t (Late token) cause waits = rolled_closes t cause
abandon_closes t (Stopped other) cause waits = rolled_closes t other
abandon_closes t stage cause waits = absurd waits

pub conclude_firm : (t : Attempt) (steps : List Step) → Closes t (led (conclude t t.now.writes) steps)
conclude_firm t steps = closes_led t (conclude t t.now.writes) steps (conclude_closes t t.now.writes)

pub rolled_firm : (t : Attempt) (cause : Cause) (steps : List Step) → Closes t (led (rolled t cause) steps)
rolled_firm t cause steps = closes_led t (rolled t cause) steps (rolled_closes t cause)

pub abandon_firm : (t : Attempt) (cause : Cause) (steps : List Step) → AwaitsAskAt t.stage → Closes t (led (moved t (Takes (Abandon cause))) steps)
unfolding moved
abandon_firm t cause steps waits = closes_led t (moved t (Takes (Abandon cause))) steps (abandon_closes t t.stage cause waits)

-- No before-commit body is left.
pub finish_firm : (t : Attempt) (steps : List Step) → AwaitsAskAt t.stage → (cause_at t.stage ≡ None → drop t.turn t.now.laters ≡ []) → Closes t (led (moved t (Takes Finish)) steps)
unfolding moved
finish_firm t steps waits none = closes_led t (moved t (Takes Finish)) steps (finish_closes t t.stage waits none)

pub late_firm : (t : Attempt) (steps : List Step) → AwaitsAskAt t.stage → (cause_at t.stage ≡ None → drop t.turn t.now.laters ≡ []) → Closes t (led (moved t EndsLate) steps)
late_firm t steps waits none = subst (λ u. Closes t (led u steps)) (sym (late_finishes t waits)) (finish_firm t steps waits none)

-- Whether one is left or not.
pub finish_past : (t : Attempt) (steps : List Step) → AwaitsAskAt t.stage → Passes t (led (moved t (Takes Finish)) steps)
unfolding moved
finish_past t steps waits = past_led t (moved t (Takes Finish)) steps (finish_passes t t.stage waits)

pub late_past : (t : Attempt) (steps : List Step) → AwaitsAskAt t.stage → Passes t (led (moved t EndsLate) steps)
late_past t steps waits = subst (λ u. Passes t (led u steps)) (sym (late_finishes t waits)) (finish_past t steps waits)
