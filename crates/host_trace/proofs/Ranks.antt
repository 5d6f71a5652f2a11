-- What an access leaves of where an attempt stands among what its script asks: it comes no further from its end, and where it may still answer, on the same footing.
use Rattle.std.proofs.Common.{◌≡◌, ◌≤◌, ◌<◌, ℕ, zero, suc, Bool, true, false, not, ◌&&◌, nat_eq, nat_lt, if◌then◌else◌, List, [], ◌∷◌, Option, Some, None, ap, sym, ◌∙◌, refl, subst, arith}
use Rattle.meta_word.specs.Meta.{changing_by_another, owned_by_another, same_but_pending, same_meta, still_has}
use Rattle.meta_word.specs.Policy.{dooms}
use Rattle.meta_word.specs.Status.{same_status}
use Rattle.meta_word.specs.declared.meta.Meta.{Meta}
use Rattle.meta_word.specs.declared.status.Phase.TheVariants.{Active, Idle, Preparing}
use Rattle.meta_word.specs.declared.status.TxnStatus.{TxnStatus}
use Rattle.stm_model.specs.Accesses.{Answer, Number, OfMeta, OfStatus, active}
use Rattle.stm_model.specs.After.{acquire_again, acquiring, after, after_at, at, decided, exchanged, extend_on, extended, final_runs, is_active, mark_on, meta_acquired, meta_read, note_of, note_validated, owner_status_loaded, owner_validated, prepared, read_again, release_level_on, release_on, ring_if, roll_on, rolled, run_all, stopped, store_on, validate_on, validated}
use Rattle.stm_model.specs.Attempt.{Attempt, Stage, Write, Announce, Begin, Ready, Stopped, ReadMeta, ExtendClock, ExtendNote, ReadValue, Validate, AcquireMeta, Acquire, OwnerStatus, OwnerMeta, DoomOwner, ReleaseLevel, Prepare, Mark, CommitClock, CommitNote, Decide, StoreValues, Release, RollBack, Close, Ended}
use Rattle.stm_model.specs.CellsState.{Book, outer, returned}
use Rattle.stm_model.specs.Handlers.{Handlers, committing, preparing}
use Rattle.stm_model.specs.Heap.{put}
use Rattle.stm_model.specs.declared.cause.Cause.{Cause}
use Rattle.stm_model.specs.declared.ending.Ending.TheVariants.{Committed, Rolled}
use Rattle.stm_model.specs.declared.note.Note.{Note}
use Rattle.ledger_model.specs.Allowed.{Footing}
use Rattle.host_trace.specs.Footings.{footing_at, footing_in, footing_of, rank}

pub rank_most : (stage : Stage) → rank stage ≤ 2
unfolding rank
rank_most (Stopped cause) = omega arith
rank_most stage = omega arith

-- The book, the levels and the turn make this footing, and these handlers have run.
record Stands (f : Footing) (r : Handlers) (now : Book) (saved : List Book) (turn : ℕ) : Type 0 where
  footing : footing_in now saved turn ≡ f
  runs : now.runs ≡ r

-- It is no further from its end than so, it is on this footing where it may answer, and these handlers have run.
pub record Fits (f : Footing) (r : Handlers) (most : ℕ) (t : Attempt) : Type 0 where
  pub nearer : rank t.stage ≤ most
  pub footing : rank t.stage ≡ 2 → footing_at t t.stage ≡ f
  pub runs : t.now.runs ≡ r

module _ (f : Footing) (r : Handlers) where
  abbrev Keeps : Attempt → Type 0
  Keeps t = Stands f r t.now t.saved t.turn

  if_fits : (most : ℕ) (b : Bool) (t u : Attempt) → Fits f r most t → Fits f r most u → Fits f r most (if b then t else u)
  if_fits most true t u first second = first
  if_fits most false t u first second = second

  held : (t : Attempt) (stage : Stage) → footing_at (at t stage) stage ≡ footing_of t → Keeps t → Fits f r 2 (at t stage)
  held t stage same keeps = record { nearer = rank_most stage; footing = λ two. same ∙ keeps.footing; runs = keeps.runs }

  shut : (most : ℕ) (t : Attempt) (stage : Stage) → rank stage ≤ most → rank stage < 2 → t.now.runs ≡ r → Fits f r most (at t stage)
  shut most t stage low less runs = record { nearer = low; footing = λ two. absurd (omega (arith, less, two)); runs = runs }

  -- ---- it ends

  mark_fits : (t : Attempt) (behind : List Write) → t.now.runs ≡ r → Fits f r 0 (mark_on t behind)
  unfolding rank
  mark_fits t [] runs = shut 0 t (CommitClock 0) (omega arith) (omega arith) runs
  mark_fits t (write ∷ behind) runs = shut 0 t (Mark write behind) (omega arith) (omega arith) runs

  release_fits : (t : Attempt) (behind : List Write) → t.now.runs ≡ r → Fits f r 0 (release_on t behind)
  unfolding rank
  release_fits t [] runs = shut 0 t Close (omega arith) (omega arith) runs
  release_fits t (write ∷ behind) runs = shut 0 t (Release write behind) (omega arith) (omega arith) runs

  store_fits : (t : Attempt) (behind : List Write) → t.now.runs ≡ r → Fits f r 0 (store_on t behind)
  unfolding rank
  store_fits t [] runs = release_fits t t.now.writes runs
  store_fits t (write ∷ behind) runs = shut 0 t (StoreValues write behind) (omega arith) (omega arith) runs

  roll_fits : (t : Attempt) (behind : List Write) → t.now.runs ≡ r → Fits f r 0 (roll_on t behind)
  unfolding rank
  roll_fits t [] runs = shut 0 t Close (omega arith) (omega arith) runs
  roll_fits t (write ∷ behind) runs = shut 0 t (RollBack write behind) (omega arith) (omega arith) runs

  pub rolled_fits : (t : Attempt) (cause : Cause) → t.now.runs ≡ r → Fits f r 0 (rolled t cause)
  rolled_fits t cause runs = roll_fits (record t { ending = Some (Rolled cause t.prefix) }) t.now.writes runs

  validate_fits : (t : Attempt) (lost clock : ℕ) (behind : List Note) → t.now.runs ≡ r → Fits f r 0 (validate_on t lost clock behind)
  unfolding validate_on rank
  validate_fits t lost clock [] runs =
      if_fits 0 (nat_eq clock t.settings.clock) _ _ (rolled_fits (record t { prefix = clock }) _ runs) (shut 0 t (Decide lost clock) (omega arith) (omega arith) runs)
  validate_fits t lost clock (note ∷ behind) runs = shut 0 t (CommitNote lost clock note behind) (omega arith) (omega arith) runs

  decided_fits : (t : Attempt) (lost clock found : ℕ) → t.now.runs ≡ r → Fits f r 0 (decided t lost clock found)
  unfolding decided rank
  decided_fits t lost clock found runs =
      if_fits 0 (nat_eq found clock) _ _
      (store_fits (record t { ending = Some (Committed (suc clock)); due = run_all (committing t.now.hooks) }) t.now.writes runs)
      (if_fits 0 (nat_lt lost t.settings.tries) _ _ (shut 0 t (CommitClock (suc lost)) (omega arith) (omega arith) runs) (rolled_fits t _ runs))

  prepared_fits : (t : Attempt) (found : TxnStatus) → t.now.runs ≡ r → Fits f r 0 (prepared t found)
  unfolding prepared
  prepared_fits t found runs =
      if_fits 0 (same_status found (active t.serial)) _ _
      (mark_fits (record t { phase = Preparing; due = run_all (preparing t.now.hooks) }) t.now.writes runs) (rolled_fits t _ runs)

  -- ---- it reads and acquires

  refused : (t : Attempt) (cause : Cause) → t.now.runs ≡ r → Fits f r 2 (stopped t cause)
  unfolding rank
  refused t cause runs = shut 2 t (Stopped cause) (omega arith) (omega arith) runs

  extend_fits : (t : Attempt) (cell left : ℕ) (first : Meta) (clock : ℕ) (behind : List Note) → Keeps t → Fits f r 2 (extend_on t cell left first clock behind)
  unfolding footing_at
  extend_fits t cell left first clock [] keeps = held (record t { prefix = clock }) (ReadValue cell left first) refl keeps
  extend_fits t cell left first clock (note ∷ behind) keeps = held t (ExtendNote cell left first clock note behind) refl keeps

  read_fits : (t : Attempt) (cell left : ℕ) (cause : Cause) → Keeps t → Fits f r 2 (read_again t cell left cause)
  unfolding footing_at
  read_fits t cell zero cause keeps = refused t cause keeps.runs
  read_fits t cell (suc left) cause keeps = held t (ReadMeta cell left) refl keeps

  again_fits : (t : Attempt) (cell value left : ℕ) (tried : Bool) (first latest : Meta) → Keeps t → Fits f r 2 (acquire_again t cell value left tried first latest)
  unfolding footing_at
  again_fits t cell value zero tried first latest keeps = refused t _ keeps.runs
  again_fits t cell value (suc left) tried first latest keeps = held t (AcquireMeta cell value left tried) refl keeps

  looked_fits : (t : Attempt) (cell left : ℕ) (first : Meta) → Keeps t → Fits f r 2 (meta_read t cell left first)
  unfolding meta_read footing_at
  looked_fits t cell left first keeps =
      if_fits 2 (changing_by_another t.own first) _ _ (read_fits t cell left _ keeps)
      (if_fits 2 (nat_lt t.prefix first.version) _ _ (held t (ExtendClock cell left first) refl keeps) (held t (ReadValue cell left first) refl keeps))

  acquiring_fits : (t : Attempt) (cell value left : ℕ) (tried : Bool) (first : Meta) → Keeps t → Fits f r 2 (acquiring t cell value left tried first)
  unfolding acquiring footing_at
  acquiring_fits t cell value left tried first keeps =
      if_fits 2 (owned_by_another t.own first) _ _
      (if_fits 2 (dooms t.settings.policy && not tried) _ _ (held t (OwnerStatus cell value left first) refl keeps) (again_fits t cell value left tried first first keeps))
      (if_fits 2 (nat_eq first.owner 0) _ _ (held t (Acquire cell value left tried first first false) refl keeps) (again_fits t cell value left tried first first keeps))

  acquired_fits : (t : Attempt) (cell value left : ℕ) (tried : Bool) (note : Option Note) (first : Meta) → Keeps t → Fits f r 2 (meta_acquired t cell value left tried note first)
  acquired_fits t cell value left tried None first keeps = acquiring_fits t cell value left tried first keeps
  acquired_fits t cell value left tried (Some note) first keeps =
      if_fits 2 (nat_eq note.version first.version) _ _ (acquiring_fits t cell value left tried first keeps) (refused t _ keeps.runs)

  exchanged_fits : (t : Attempt) (cell value left : ℕ) (tried : Bool) (first expected : Meta) (again : Bool) (found : Meta) → Keeps t
      → Fits f r 2 (exchanged t cell value left tried first expected again found)
  unfolding exchanged footing_at
  exchanged_fits t cell value left tried first expected again found keeps =
      if_fits 2 (same_meta found expected) _ _
      (held (record t { now = record t.now { writes = put t.now.writes cell value } }) (Ready None) refl (record { footing = keeps.footing; runs = keeps.runs }))
      (if_fits 2 (not again && same_but_pending found expected) _ _ (held t (Acquire cell value left tried first found true) refl keeps) (again_fits t cell value left tried first found keeps))

  -- ---- it undoes a level

  returned_runs : (saved : List Book) (now : Book) → (returned saved now).runs ≡ now.runs
  returned_runs [] now = refl
  returned_runs (former ∷ books) now = refl

  pub level_fits : (t : Attempt) (kept behind : List Write) → footing_in (returned t.saved t.now) (outer t.saved) t.turn ≡ f → t.now.runs ≡ r → Fits f r 2 (release_level_on t kept behind)
  unfolding rank footing_at
  level_fits t kept [] footing runs = record { nearer = omega arith; footing = λ two. footing; runs = returned_runs t.saved t.now ∙ runs }
  level_fits t kept (write ∷ behind) footing runs = record { nearer = omega arith; footing = λ two. footing; runs = runs }

  -- ---- any answer

  stays : (t : Attempt) (stage : Stage) → t.stage ≡ stage → (rank stage ≡ 2 → footing_at t stage ≡ f) → t.now.runs ≡ r → Fits f r (rank stage) t
  stays t stage is footing runs = record {
    nearer = let same : rank t.stage ≡ rank stage = ap rank is in omega (arith, same);
    footing = subst (λ (there : Stage). rank there ≡ 2 → footing_at t there ≡ f) (sym is) footing;
    runs = runs;
  }

  after_fits : (t : Attempt) (stage : Stage) (answer : Answer) → t.stage ≡ stage → (rank stage ≡ 2 → footing_at t stage ≡ f) → t.now.runs ≡ r → Fits f r (rank stage) (after_at t stage answer)
  unfolding after_at rank footing_at extended validated owner_status_loaded owner_validated note_validated
  after_fits t Announce (OfStatus found) is footing runs = held (record t { phase = Active }) Begin refl (record { footing = footing refl; runs = runs })
  after_fits t Begin (Number clock) is footing runs = held (record t { prefix = clock }) (Ready None) refl (record { footing = footing refl; runs = runs })
  after_fits t (ReadMeta cell left) (OfMeta found) is footing runs = looked_fits t cell left found (record { footing = footing refl; runs = runs })
  after_fits t (ExtendClock cell left first) (Number clock) is footing runs = extend_fits t cell left first clock t.notes (record { footing = footing refl; runs = runs })
  after_fits t (ExtendNote cell left first clock note behind) (OfMeta found) is footing runs =
      if_fits 2 (still_has t.own note.version found) _ _ (extend_fits t cell left first clock behind (record { footing = footing refl; runs = runs })) (refused t _ runs)
  after_fits t (ReadValue cell left first) (Number value) is footing runs = held t (Validate cell left first value) refl (record { footing = footing refl; runs = runs })
  after_fits t (Validate cell left first value) (OfMeta found) is footing runs =
      if_fits 2 (still_has t.own first.version found) _ _
      (held (record t { notes = _ }) (Ready (Some value)) refl (record { footing = footing refl; runs = runs })) (read_fits t cell left _ (record { footing = footing refl; runs = runs }))
  after_fits t (AcquireMeta cell value left tried) (OfMeta found) is footing runs = acquired_fits t cell value left tried (note_of t.notes cell) found (record { footing = footing refl; runs = runs })
  after_fits t (Acquire cell value left tried first expected again) (OfMeta found) is footing runs =
      exchanged_fits t cell value left tried first expected again found (record { footing = footing refl; runs = runs })
  after_fits t (OwnerStatus cell value left first) (OfStatus found) is footing runs =
      if_fits 2 (is_active found.phase) _ _ (held t (OwnerMeta cell value left first found) refl (record { footing = footing refl; runs = runs }))
      (again_fits t cell value left true first first (record { footing = footing refl; runs = runs }))
  after_fits t (OwnerMeta cell value left first status) (OfMeta found) is footing runs =
      if_fits 2 (nat_eq found.owner first.owner && not found.changing) _ _ (held t (DoomOwner cell value left first found status) refl (record { footing = footing refl; runs = runs }))
      (again_fits t cell value left true first found (record { footing = footing refl; runs = runs }))
  after_fits t (DoomOwner cell value left first second status) (OfStatus found) is footing runs = again_fits t cell value left true first second (record { footing = footing refl; runs = runs })
  after_fits t (ReleaseLevel kept write behind) (OfMeta found) is footing runs = level_fits (record t { due = ring_if found.pending write.0 }) kept behind (footing refl) runs
  after_fits t Prepare (OfStatus found) is footing runs = prepared_fits t found runs
  after_fits t (Mark write behind) (OfMeta found) is footing runs = mark_fits t behind runs
  after_fits t (CommitClock lost) (Number clock) is footing runs = validate_fits t lost clock t.notes runs
  after_fits t (CommitNote lost clock note behind) (OfMeta found) is footing runs =
      if_fits 0 (still_has t.own note.version found) _ _ (validate_fits t lost clock behind runs) (rolled_fits t _ runs)
  after_fits t (Decide lost clock) (Number found) is footing runs = decided_fits t lost clock found runs
  after_fits t (StoreValues write behind) (Number found) is footing runs = store_fits t behind runs
  after_fits t (Release write behind) (OfMeta found) is footing runs = release_fits (record t { due = ring_if found.pending write.0 }) behind runs
  after_fits t (RollBack write behind) (OfMeta found) is footing runs = roll_fits (record t { due = ring_if found.pending write.0 }) behind runs
  after_fits t Close (OfStatus found) is footing runs = shut 0 (record t { phase = Idle; due = run_all (final_runs t.ending t.now.hooks) }) Ended (omega arith) (omega arith) runs
  after_fits t stage answer is footing runs = stays t stage is footing runs

-- what an access leaves
pub access_fits : (t : Attempt) (answer : Answer) → Fits (footing_at t t.stage) t.now.runs (rank t.stage) (after t answer)
access_fits t answer = after_fits (footing_at t t.stage) t.now.runs t t.stage answer refl (λ two. refl) refl
