-- What an access may bring: one ring, and a run for each handler that is registered. It registers none, and whose turn it is stays.
use Rattle.std.proofs.Common.{◌≡◌, ℕ, zero, suc, ◌+◌, ◌-◌, ◌<◌, ◌≤◌, Bool, true, false, not, ◌&&◌, nat_eq, nat_lt, List, [], ◌∷◌, ◌++◌, length, drop, Option, Some, None, ap, refl, if◌then◌else◌, arith, length-append, length-drop}
use Rattle.std.proofs.lemmas.List.{length-map, length-reverse}
use Rattle.std.proofs.lemmas.List.Sums.{count_by-le-length, length-filter}
use Rattle.meta_word.specs.Meta.{changing_by_another, owned_by_another, still_has, same_but_pending, same_meta}
use Rattle.meta_word.specs.Policy.{dooms}
use Rattle.meta_word.specs.Status.{same_status}
use Rattle.meta_word.specs.declared.meta.Meta.{Meta}
use Rattle.meta_word.specs.declared.status.Phase.TheVariants.{Preparing}
use Rattle.meta_word.specs.declared.status.TxnStatus.{TxnStatus}
use Rattle.stm_model.specs.Accesses.{Act, Answer, Number, OfMeta, OfStatus, active, answer_of, next_at, unless_due}
use Rattle.stm_model.specs.After.{after, meta_acquired, acquiring, after_at, after_found, after_word, validate_on, note_validated, decided, extend_on, extended, final_runs, release_level_on, is_active, read_again, meta_read, validated, mark_on, note_of, owner_status_loaded, owner_validated, exchanged, prepared, release_on, ring_if, roll_on, rolled, run_all, store_on, acquire_again}
use Rattle.stm_model.specs.Attempt.{Attempt, Due, Run, Ring, Stage, Write, Announce, Begin, ReadMeta, ExtendClock, ExtendNote, ReadValue, Validate, AcquireMeta, Acquire, OwnerStatus, OwnerMeta, DoomOwner, ReleaseLevel, Prepare, Mark, CommitClock, CommitNote, Decide, StoreValues, Release, RollBack, Close}
use Rattle.stm_model.specs.CellsState.{Book, level_runs, outer, returned}
use Rattle.stm_model.specs.Handlers.{Handlers, committing, of_phase, preparing, undoing}
use Rattle.stm_model.specs.Moves.{Does, did_first, moved}
use Rattle.stm_model.specs.declared.cause.Cause.{Cause}
use Rattle.stm_model.specs.declared.cause.HookPhase.{HookPhase}
use Rattle.stm_model.specs.declared.ending.Ending.{Ending}
use Rattle.stm_model.specs.declared.ending.Ending.TheVariants.{Committed, Read, Rolled}
use Rattle.stm_model.specs.declared.note.Note.{Note}
use Rattle.world_run.specs.Simulation.{hooks_in}

-- ---- handlers

of_phase_few : (is : HookPhase → Bool) (hooks : Handlers) → length (run_all (of_phase is hooks)) ≤ length hooks
of_phase_few is hooks = simp (length-map, length-filter) (count_by-le-length _ hooks)

undoing_few : (hooks : Handlers) → length (run_all (undoing hooks)) ≤ length hooks
undoing_few hooks = simp (length-map, length-reverse, length-filter) (count_by-le-length _ hooks)

final_few : (ending : Option Ending) (hooks : Handlers) → length (run_all (final_runs ending hooks)) ≤ length hooks
unfolding final_runs
final_few None hooks = of_phase_few _ hooks
final_few (Some (Committed stamp)) hooks = of_phase_few _ hooks
final_few (Some (Read prefix)) hooks = of_phase_few _ hooks
final_few (Some (Rolled cause prefix)) hooks = undoing_few hooks

ring_few : (pending : Bool) (cell : ℕ) → length (ring_if pending cell) ≤ 1
ring_few true cell = omega arith
ring_few false cell = omega arith

-- ---- what is kept

-- It has this turn, no more handlers than so many in its books, and no more due than a ring and a run of each.
record Within (turns most turn : ℕ) (now : Book) (levels : List Book) (dues : List Due) : Type 0 where
  turn_is : turn ≡ turns
  fewer : hooks_in (now ∷ levels) ≤ most
  few : length dues ≤ suc most

-- the same but for what is due
dues_of : {turns most turn : ℕ} {now : Book} {levels : List Book} {dues : List Due} → Within turns most turn now levels dues → (others : List Due) → length others ≤ suc most
    → Within turns most turn now levels others
dues_of within others few = record { turn_is = within.turn_is; fewer = within.fewer; few = few }

-- so many runs as handlers are registered
runs_of : {turns most turn : ℕ} {now : Book} {levels : List Book} {dues : List Due} → Within turns most turn now levels dues → (others : List Due) → length others ≤ length now.hooks
    → Within turns most turn now levels others
runs_of {most = most} {now = now} {levels = levels} within others few =
    let all : length now.hooks + hooks_in levels ≤ most = within.fewer in
    dues_of within others (omega (arith, all, few))

module _ (turns most : ℕ) where
  abbrev Keeps : Attempt → Type 0
  Keeps t = Within turns most t.turn t.now t.saved t.due

  if_keeps : (b : Bool) (t u : Attempt) → Keeps t → Keeps u → Keeps (if b then t else u)
  if_keeps true t u first second = first
  if_keeps false t u first second = second

  -- a ring alone
  rings : (t : Attempt) (pending : Bool) (cell : ℕ) → Keeps t → Keeps (record t { due = ring_if pending cell })
  rings t pending cell keeps = let one : length (ring_if pending cell) ≤ 1 = ring_few pending cell in dues_of keeps (ring_if pending cell) (omega (arith, one))

  -- ---- lists

  extend_keeps : (t : Attempt) (cell left : ℕ) (first : Meta) (clock : ℕ) (behind : List Note) → Keeps t → Keeps (extend_on t cell left first clock behind)
  extend_keeps t cell left first clock [] keeps = keeps
  extend_keeps t cell left first clock (note ∷ behind) keeps = keeps

  mark_keeps : (t : Attempt) (behind : List Write) → Keeps t → Keeps (mark_on t behind)
  mark_keeps t [] keeps = keeps
  mark_keeps t (write ∷ behind) keeps = keeps

  release_keeps : (t : Attempt) (behind : List Write) → Keeps t → Keeps (release_on t behind)
  release_keeps t [] keeps = keeps
  release_keeps t (write ∷ behind) keeps = keeps

  store_keeps : (t : Attempt) (behind : List Write) → Keeps t → Keeps (store_on t behind)
  store_keeps t [] keeps = release_keeps t t.now.writes keeps
  store_keeps t (write ∷ behind) keeps = keeps

  roll_keeps : (t : Attempt) (behind : List Write) → Keeps t → Keeps (roll_on t behind)
  roll_keeps t [] keeps = keeps
  roll_keeps t (write ∷ behind) keeps = keeps

  rolled_keeps : (t : Attempt) (cause : Cause) → Keeps t → Keeps (rolled t cause)
  rolled_keeps t cause keeps = roll_keeps (record t { ending = Some (Rolled cause t.prefix) }) t.now.writes keeps

  read_keeps : (t : Attempt) (cell left : ℕ) (cause : Cause) → Keeps t → Keeps (read_again t cell left cause)
  read_keeps t cell zero cause keeps = keeps
  read_keeps t cell (suc left) cause keeps = keeps

  again_keeps : (t : Attempt) (cell value left : ℕ) (tried : Bool) (first latest : Meta) → Keeps t → Keeps (acquire_again t cell value left tried first latest)
  again_keeps t cell value zero tried first latest keeps = keeps
  again_keeps t cell value (suc left) tried first latest keeps = keeps

  validate_keeps : (t : Attempt) (lost clock : ℕ) (behind : List Note) → Keeps t → Keeps (validate_on t lost clock behind)
  unfolding validate_on
  validate_keeps t lost clock [] keeps = if_keeps (nat_eq clock t.settings.clock) _ _ (rolled_keeps (record t { prefix = clock }) _ keeps) keeps
  validate_keeps t lost clock (note ∷ behind) keeps = keeps

  -- A level that is undone leaves the handlers that were there before it, and those since run.
  level_keeps : (t : Attempt) (kept behind : List Write) → length t.due ≤ 1 → Keeps t → Keeps (release_level_on t kept behind)
  level_keeps t kept [] one keeps = go t.saved keeps
    where
      go : (levels : List Book) → Within turns most t.turn t.now levels t.due → Within turns most t.turn (returned levels t.now) (outer levels) (t.due ++ run_all (level_runs levels t.now))
      go [] within = dues_of within (t.due ++ []) (let none : List Due = [] in let long = length-append t.due none in omega (arith, long, one))
      go (former ∷ books) within =
          let all : length t.now.hooks + (length former.hooks + hooks_in books) ≤ most = within.fewer in
          let runs : length (run_all (undoing (drop (length former.hooks) t.now.hooks))) ≤ length (drop (length former.hooks) t.now.hooks) = undoing_few (drop (length former.hooks) t.now.hooks) in
          let rest : length (drop (length former.hooks) t.now.hooks) ≡ length t.now.hooks - length former.hooks = length-drop (length former.hooks) t.now.hooks in
          let long = length-append t.due (run_all (undoing (drop (length former.hooks) t.now.hooks))) in
          record { turn_is = within.turn_is; fewer = omega (arith, all); few = omega (arith, all, runs, rest, long, one) }
  level_keeps t kept (write ∷ behind) one keeps = keeps

  -- ---- answers

  looked_keeps : (t : Attempt) (cell left : ℕ) (first : Meta) → Keeps t → Keeps (meta_read t cell left first)
  unfolding meta_read
  looked_keeps t cell left first keeps =
      if_keeps (changing_by_another t.own first) _ _ (read_keeps t cell left _ keeps) (if_keeps (nat_lt t.prefix first.version) _ _ keeps keeps)

  acquiring_keeps : (t : Attempt) (cell value left : ℕ) (tried : Bool) (first : Meta) → Keeps t → Keeps (acquiring t cell value left tried first)
  unfolding acquiring
  acquiring_keeps t cell value left tried first keeps =
      if_keeps (owned_by_another t.own first) _ _
      (if_keeps (dooms t.settings.policy && not tried) _ _ keeps (again_keeps t cell value left tried first first keeps))
      (if_keeps (nat_eq first.owner 0) _ _ keeps (again_keeps t cell value left tried first first keeps))

  acquired_keeps : (t : Attempt) (cell value left : ℕ) (tried : Bool) (note : Option Note) (first : Meta) → Keeps t → Keeps (meta_acquired t cell value left tried note first)
  acquired_keeps t cell value left tried None first keeps = acquiring_keeps t cell value left tried first keeps
  acquired_keeps t cell value left tried (Some note) first keeps =
      if_keeps (nat_eq note.version first.version) _ _ (acquiring_keeps t cell value left tried first keeps) keeps

  exchanged_keeps : (t : Attempt) (cell value left : ℕ) (tried : Bool) (first expected : Meta) (again : Bool) (found : Meta) → Keeps t
      → Keeps (exchanged t cell value left tried first expected again found)
  unfolding exchanged
  exchanged_keeps t cell value left tried first expected again found keeps =
      if_keeps (same_meta found expected) _ _ (record { turn_is = keeps.turn_is; fewer = keeps.fewer; few = keeps.few })
      (if_keeps (not again && same_but_pending found expected) _ _ keeps (again_keeps t cell value left tried first found keeps))

  decided_keeps : (t : Attempt) (lost clock found : ℕ) → Keeps t → Keeps (decided t lost clock found)
  unfolding decided
  decided_keeps t lost clock found keeps =
      if_keeps (nat_eq found clock) _ _
      (store_keeps (record t { ending = Some (Committed (suc clock)); due = run_all (committing t.now.hooks) }) t.now.writes
      (runs_of keeps (run_all (committing t.now.hooks)) (of_phase_few _ t.now.hooks)))
      (if_keeps (nat_lt lost t.settings.tries) _ _ keeps (rolled_keeps t _ keeps))

  prepared_keeps : (t : Attempt) (found : TxnStatus) → Keeps t → Keeps (prepared t found)
  unfolding prepared
  prepared_keeps t found keeps =
      if_keeps (same_status found (active t.serial)) _ _
      (mark_keeps (record t { phase = Preparing; due = run_all (preparing t.now.hooks) }) t.now.writes
      (runs_of keeps (run_all (preparing t.now.hooks)) (of_phase_few _ t.now.hooks)))
      (rolled_keeps t _ keeps)

  after_keeps : (t : Attempt) (stage : Stage) (answer : Answer) → Keeps t → Keeps (after_at t stage answer)
  unfolding after_at extended validated owner_status_loaded owner_validated note_validated
  after_keeps t Announce (OfStatus found) keeps = keeps
  after_keeps t Begin (Number clock) keeps = keeps
  after_keeps t (ReadMeta cell left) (OfMeta found) keeps = looked_keeps t cell left found keeps
  after_keeps t (ExtendClock cell left first) (Number clock) keeps = extend_keeps t cell left first clock t.notes keeps
  after_keeps t (ExtendNote cell left first clock note behind) (OfMeta found) keeps =
      if_keeps (still_has t.own note.version found) _ _ (extend_keeps t cell left first clock behind keeps) keeps
  after_keeps t (ReadValue cell left first) (Number value) keeps = keeps
  after_keeps t (Validate cell left first value) (OfMeta found) keeps =
      if_keeps (still_has t.own first.version found) _ _ keeps (read_keeps t cell left _ keeps)
  after_keeps t (AcquireMeta cell value left tried) (OfMeta found) keeps = acquired_keeps t cell value left tried (note_of t.notes cell) found keeps
  after_keeps t (Acquire cell value left tried first expected again) (OfMeta found) keeps = exchanged_keeps t cell value left tried first expected again found keeps
  after_keeps t (OwnerStatus cell value left first) (OfStatus found) keeps =
      if_keeps (is_active found.phase) _ _ keeps (again_keeps t cell value left true first first keeps)
  after_keeps t (OwnerMeta cell value left first status) (OfMeta found) keeps =
      if_keeps (nat_eq found.owner first.owner && not found.changing) _ _ keeps (again_keeps t cell value left true first found keeps)
  after_keeps t (DoomOwner cell value left first second status) (OfStatus found) keeps = again_keeps t cell value left true first second keeps
  after_keeps t (ReleaseLevel kept write behind) (OfMeta found) keeps =
      level_keeps (record t { due = ring_if found.pending write.0 }) kept behind (ring_few found.pending write.0) (rings t found.pending write.0 keeps)
  after_keeps t Prepare (OfStatus found) keeps = prepared_keeps t found keeps
  after_keeps t (Mark write behind) (OfMeta found) keeps = mark_keeps t behind keeps
  after_keeps t (CommitClock lost) (Number clock) keeps = validate_keeps t lost clock t.notes keeps
  after_keeps t (CommitNote lost clock note behind) (OfMeta found) keeps =
      if_keeps (still_has t.own note.version found) _ _ (validate_keeps t lost clock behind keeps) (rolled_keeps t _ keeps)
  after_keeps t (Decide lost clock) (Number found) keeps = decided_keeps t lost clock found keeps
  after_keeps t (StoreValues write behind) (Number found) keeps = store_keeps t behind keeps
  after_keeps t (Release write behind) (OfMeta found) keeps =
      release_keeps (record t { due = ring_if found.pending write.0 }) behind (rings t found.pending write.0 keeps)
  after_keeps t (RollBack write behind) (OfMeta found) keeps =
      roll_keeps (record t { due = ring_if found.pending write.0 }) behind (rings t found.pending write.0 keeps)
  after_keeps t Close (OfStatus found) keeps =
      runs_of keeps (run_all (final_runs t.ending t.now.hooks)) (final_few t.ending t.now.hooks)
  after_keeps t stage answer keeps = keeps

-- ---- an access

-- how many handlers its books hold
abbrev pub hooks_of : Attempt → ℕ
hooks_of t = hooks_in (t.now ∷ t.saved)

-- what comes of an access: one ring and a run of each handler at most
pub record Brings (t u : Attempt) : Type 0 where
  pub turn : u.turn ≡ t.turn
  pub fewer : hooks_of u ≤ hooks_of t
  pub few : length u.due ≤ length t.due + suc (hooks_of t)

brings_none : (t : Attempt) → Brings t t
brings_none t = record { turn = refl; fewer = omega arith; few = omega arith }

brings_after : (t : Attempt) (answer : Answer) → t.due ≡ [] → Brings t (after_at t t.stage answer)
brings_after t answer none =
    let empty : length t.due ≡ 0 = ap length none in
    let start : Keeps t.turn (hooks_of t) t = record { turn_is = refl; fewer = omega arith; few = omega (arith, empty) } in
    let here = after_keeps t.turn (hooks_of t) t t.stage answer start in
    record { turn = here.turn_is; fewer = here.fewer; few = let few : length (after_at t t.stage answer).due ≤ suc (hooks_of t) = here.few in omega (arith, few) }

-- Whose turn it is stays.
pub turn_after : (t : Attempt) (answer : Answer) → (after t answer).turn ≡ t.turn
turn_after t answer =
    let start : Keeps t.turn (hooks_of t + length t.due) t = record { turn_is = refl; fewer = omega arith; few = omega arith } in
    (after_keeps t.turn (hooks_of t + length t.due) t t.stage answer start).turn_is

pub brings_word : (t : Attempt) (word : ℕ) → Brings t (after_word t word)
brings_word t word = go t.due refl
  where
    go : (due : List Due) → t.due ≡ due → Brings t (after_found t (unless_due due (next_at t t.stage)) word)
    go [] is = by_act (next_at t t.stage)
      where
        by_act : (this : Option Act) → Brings t (after_found t this word)
        by_act None = brings_none t
        by_act (Some act) = brings_after t (answer_of act word) is
    go (first ∷ due) is = brings_none t

-- ---- what is due

-- what comes of what is due first: no handler is registered, and less is due
pub record Clears (t u : Attempt) : Type 0 where
  pub turn : u.turn ≡ t.turn
  pub hooks : hooks_of u ≡ hooks_of t
  pub less : length u.due < length t.due

pub clears_does : (t : Attempt) → 0 < length t.due → Clears t (moved t Does)
unfolding moved
clears_does t some = go t.due some
  where
    go : (due : List Due) → 0 < length due → Clears (record t { due = due }) (did_first t due)
    go [] some = absurd (omega (arith, some))
    go (Run phase token ∷ dues) some = record { turn = refl; hooks = refl; less = omega arith }
    go (Ring cell ∷ dues) some = record { turn = refl; hooks = refl; less = omega arith }
