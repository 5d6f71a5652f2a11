-- The number of an attempt stays the same over its accesses, and a local move changes it only where the next attempt begins.
use Rattle.std.proofs.Common.{◌≡◌, ◌⊎◌, ℕ, zero, suc, ◌/◌, ◌^◌, Bool, true, false, not, ◌&&◌, nat_eq, nat_lt, if◌then◌else◌, ◌≤◌, List, [], ◌∷◌, length, drop, Option, Some, None, refl, sym, ap, ◌∙◌, subst, inl, inr, ⊎_elim, arith}
use Rattle.meta_word.specs.Meta.{still_has, changing_by_another, owned_by_another, same_but_pending, same_meta}
use Rattle.meta_word.specs.Status.{phase_number, same_status, status_word}
use Rattle.meta_word.specs.Policy.{dooms, looks}
use Rattle.meta_word.specs.declared.meta.Meta.{Meta}
use Rattle.meta_word.specs.declared.status.Phase.{Phase}
use Rattle.meta_word.specs.declared.status.Phase.TheVariants.{Active, Idle, Preparing, Doomed as DoomedPhase}
use Rattle.meta_word.specs.declared.status.TxnStatus.{TxnStatus}
use Rattle.stm_model.specs.declared.access.Access.{Access}
use Rattle.stm_model.specs.declared.access.Ask.{Ask}
use Rattle.stm_model.specs.declared.access.Ask.TheVariants.{Get, Set, Enter, Keep, Undo, Hook, Later, Finish, Abandon}
use Rattle.stm_model.specs.declared.cause.Cause.{Cause}
use Rattle.stm_model.specs.declared.cause.Cause.TheVariants.{ClockEnd, ClockMoved, Doomed, TooDeep}
use Rattle.stm_model.specs.declared.ending.Ending.TheVariants.{Committed, Rolled}
use Rattle.stm_model.specs.declared.note.Note.{Note}
use Rattle.stm_model.specs.Accesses.{Act, Answer, LoadClock, Number, OfMeta, OfStatus, SetPending, StoreStatus, access_of, active, answer_of, next, next_access, next_at}
use Rattle.stm_model.specs.After.{at, done, is_active, run_all, meta_acquired, acquiring, after_at, after_found, after_word, validate_on, decided, extend_on, extended, release_level_on, read_again, meta_read, validated, mark_on, note_of, owner_status_loaded, owner_validated, exchanged, prepared, release_on, ring_if, roll_on, rolled, note_validated, store_on, acquire_again, stale, stopped}
use Rattle.stm_model.specs.Attempt.{Attempt, Due, Run, Ring, Stage, Write, Announce, Begin, Ready, Late, Stopped, ReadMeta, ExtendClock, ExtendNote, ReadValue, Validate, AcquireMeta, Acquire, OwnerStatus, OwnerMeta, DoomOwner, ReleaseLevel, Prepare, Mark, CommitClock, CommitNote, Decide, StoreValues, Release, RollBack, Close, Ended}
use Rattle.stm_model.specs.CellsState.{Book}
use Rattle.stm_model.specs.Handlers.{committing, preparing}
use Rattle.stm_model.specs.Heap.{put, writes_to}
use Rattle.stm_model.specs.Refusing.{deepest}
use Rattle.std.specs.Map.{lookup}
use Rattle.stm_model.specs.Moves.{AwaitsAskAt, Begins, Does, EndsLate, Forgets, May, MayAll, OutOfMemory, Move, Takes, asked_at, asked_going, asked_stopped, conclude, did_first, late_over_at, moved, moved_on, read_buffered, read_noted, turn_to, undo_level}
use Rattle.ref_table.specs.Keyed.{clock_kept, serial_then}
use Rattle.stm_model.specs.World.{Terms, View, cells_in}
use Rattle.ref_table.specs.Performs.{MayPerform, Performs, clock_then}
use Rattle.ref_table.specs.Seats.{SeatState}
use Rattle.ref_table.proofs.Stored.{acts_of, next_stage}

module _ (n : ℕ) where
  -- The attempt has this number.
  abbrev pub Has : Attempt → Type 0
  Has t = t.serial ≡ n

  choice : (b : Bool) (t u : Attempt) → Has t → Has u → Has (if b then t else u)
  choice true t u first second = first
  choice false t u first second = second

  reads_again : (t : Attempt) (cell left : ℕ) (cause : Cause) → Has t → Has (read_again t cell left cause)
  reads_again t cell zero cause has = has
  reads_again t cell (suc left) cause has = has

  acquires_again : (t : Attempt) (cell value left : ℕ) (tried : Bool) (first latest : Meta) → Has t → Has (acquire_again t cell value left tried first latest)
  acquires_again t cell value zero tried first latest has = has
  acquires_again t cell value (suc left) tried first latest has = has

  rolls : (t : Attempt) (writes : List Write) → Has t → Has (roll_on t writes)
  rolls t [] has = has
  rolls t (write ∷ behind) has = has

  releases : (t : Attempt) (writes : List Write) → Has t → Has (release_on t writes)
  releases t [] has = has
  releases t (write ∷ behind) has = has

  stores : (t : Attempt) (writes : List Write) → Has t → Has (store_on t writes)
  stores t [] has = releases t t.now.writes has
  stores t (write ∷ behind) has = has

  marks_on : (t : Attempt) (writes : List Write) → Has t → Has (mark_on t writes)
  marks_on t [] has = has
  marks_on t (write ∷ behind) has = has

  validates : (t : Attempt) (lost clock : ℕ) (notes : List Note) → Has t → Has (validate_on t lost clock notes)
  unfolding validate_on
  validates t lost clock [] has =
      choice (nat_eq clock t.settings.clock) (rolled (record t { prefix = clock }) (ClockEnd clock)) (at t (Decide lost clock))
      (rolls (record (record t { prefix = clock }) { ending = Some (Rolled (ClockEnd clock) clock) }) t.now.writes has) has
  validates t lost clock (note ∷ behind) has = has

  extends : (t : Attempt) (cell left : ℕ) (first : Meta) (clock : ℕ) (notes : List Note) → Has t → Has (extend_on t cell left first clock notes)
  extends t cell left first clock [] has = has
  extends t cell left first clock (note ∷ behind) has = has

  gives : (t : Attempt) (kept writes : List Write) → Has t → Has (release_level_on t kept writes)
  gives t kept [] has = has
  gives t kept (write ∷ behind) has = has

  acquires : (t : Attempt) (cell value left : ℕ) (tried : Bool) (first : Meta) → Has t → Has (acquiring t cell value left tried first)
  unfolding acquiring
  acquires t cell value left tried first has =
      choice (owned_by_another t.own first) _ _
      (choice (dooms t.settings.policy && not tried) _ _ has (acquires_again t cell value left tried first first has))
      (choice (nat_eq first.owner 0) _ _ has (acquires_again t cell value left tried first first has))

  acquires_noted : (t : Attempt) (cell value left : ℕ) (tried : Bool) (note : Option Note) (first : Meta) → Has t → Has (meta_acquired t cell value left tried note first)
  acquires_noted t cell value left tried None first has = acquires t cell value left tried first has
  acquires_noted t cell value left tried (Some note) first has = choice (nat_eq note.version first.version) _ _ (acquires t cell value left tried first has) has

  exchanges : (t : Attempt) (cell value left : ℕ) (tried : Bool) (first expected : Meta) (again : Bool) (found : Meta) → Has t → Has (exchanged t cell value left tried first expected again found)
  unfolding exchanged
  exchanges t cell value left tried first expected again found has =
      choice (same_meta found expected) _ _ has
      (choice (not again && same_but_pending found expected) _ _ has (acquires_again t cell value left tried first found has))

  decides : (t : Attempt) (lost clock found : ℕ) → Has t → Has (decided t lost clock found)
  unfolding decided
  decides t lost clock found has =
      choice (nat_eq found clock) _ _ (stores (record t { ending = Some (Committed (suc clock)); due = run_all (committing t.now.hooks) }) t.now.writes has)
      (choice (nat_lt lost t.settings.tries) _ _ has (rolls (record t { ending = Some (Rolled (ClockMoved clock found) t.prefix) }) t.now.writes has))

  pub after_has : (t : Attempt) (stage : Stage) (answer : Answer) → Has t → Has (after_at t stage answer)
  unfolding after_at meta_read validated extended owner_status_loaded owner_validated prepared note_validated
  after_has t Announce (OfStatus found) has = has
  after_has t Begin (Number clock) has = has
  after_has t (ReadMeta cell left) (OfMeta found) has =
      choice (changing_by_another t.own found) _ _ (reads_again t cell left _ has) (choice (nat_lt t.prefix found.version) _ _ has has)
  after_has t (ExtendClock cell left first) (Number clock) has = extends t cell left first clock t.notes has
  after_has t (ExtendNote cell left first clock note behind) (OfMeta found) has =
      choice (still_has t.own note.version found) _ _ (extends t cell left first clock behind has) has
  after_has t (ReadValue cell left first) (Number value) has = has
  after_has t (Validate cell left first value) (OfMeta found) has = choice (still_has t.own first.version found) _ _ has (reads_again t cell left _ has)
  after_has t (AcquireMeta cell value left tried) (OfMeta found) has = acquires_noted t cell value left tried (note_of t.notes cell) found has
  after_has t (Acquire cell value left tried first expected again) (OfMeta found) has = exchanges t cell value left tried first expected again found has
  after_has t (OwnerStatus cell value left first) (OfStatus found) has =
      choice (is_active found.phase) _ _ has (acquires_again t cell value left true first first has)
  after_has t (OwnerMeta cell value left first status) (OfMeta found) has =
      choice (nat_eq found.owner first.owner && not found.changing) _ _ has (acquires_again t cell value left true first found has)
  after_has t (DoomOwner cell value left first second status) (OfStatus found) has = acquires_again t cell value left true first second has
  after_has t (ReleaseLevel kept write behind) (OfMeta found) has = gives (record t { due = ring_if found.pending write.0 }) kept behind has
  after_has t Prepare (OfStatus found) has =
      choice (same_status found (active t.serial)) _ _ (marks_on (record t { phase = Preparing; due = run_all (preparing t.now.hooks) }) t.now.writes has)
      (rolls (record t { ending = Some (Rolled (Doomed found) t.prefix) }) t.now.writes has)
  after_has t (Mark write behind) (OfMeta found) has = marks_on t behind has
  after_has t (CommitClock lost) (Number clock) has = validates t lost clock t.notes has
  after_has t (CommitNote lost clock note behind) (OfMeta found) has =
      choice (still_has t.own note.version found) _ _ (validates t lost clock behind has)
      (rolls (record t { ending = Some (Rolled (stale note found) t.prefix) }) t.now.writes has)
  after_has t (Decide lost clock) (Number found) has = decides t lost clock found has
  after_has t (StoreValues write behind) (Number found) has = stores t behind has
  after_has t (Release write behind) (OfMeta found) has = releases (record t { due = ring_if found.pending write.0 }) behind has
  after_has t (RollBack write behind) (OfMeta found) has = rolls (record t { due = ring_if found.pending write.0 }) behind has
  after_has t Close (OfStatus found) has = has
  after_has t stage answer has = has

  -- ---- local moves

  concludes : (t : Attempt) (writes : List Write) → Has t → Has (conclude t writes)
  concludes t [] has = has
  concludes t (write ∷ writes) has = has

  turns : (t : Attempt) (tokens : List ℕ) → Has t → Has (turn_to t tokens)
  turns t [] has = concludes t t.now.writes has
  turns t (token ∷ tokens) has = has

  reads_noted : (t : Attempt) (cell : ℕ) (note : Option Note) → Has t → Has (read_noted t cell note)
  reads_noted t cell None has = has
  reads_noted t cell (Some note) has = has

  reads : (t : Attempt) (cell : ℕ) (value : Option ℕ) → Has t → Has (read_buffered t cell value)
  reads t cell None has = reads_noted t cell (note_of t.notes cell) has
  reads t cell (Some value) has = has

  undoes : (t : Attempt) (saved : List Book) → Has t → Has (undo_level t saved)
  undoes t [] has = has
  undoes t (former ∷ books) has = gives t former.writes (drop (length former.writes) t.now.writes) has

  goes : (t : Attempt) (ask : Ask) → Has t → Has (asked_going t ask)
  unfolding asked_going
  goes t (Get cell) has = reads t cell.0 (lookup (nat_eq cell.0) t.now.writes) has
  goes t (Set cell value) has =
      choice (writes_to t.now.writes cell.0) (done (record t { now = record t.now { writes = put t.now.writes cell.0 value } })) (at t (AcquireMeta cell.0 value (looks t.settings.policy) false)) has has
  goes t Enter has = choice (nat_lt (length t.saved) deepest) (done (record t { saved = t.now ∷ t.saved })) (stopped t (TooDeep deepest)) has has
  goes t Keep has = has
  goes t Undo has = undoes t t.saved has
  goes t (Hook phase token) has = has
  goes t (Later token) has = has
  goes t Finish has = turns t (drop t.turn t.now.laters) has
  goes t (Abandon cause) has = rolls (record t { ending = Some (Rolled cause t.prefix) }) t.now.writes has

  refuses : (t : Attempt) (cause : Cause) (ask : Ask) → Has t → Has (asked_stopped t cause ask)
  unfolding asked_stopped
  refuses t cause Keep has = has
  refuses t cause Undo has = has
  refuses t cause Finish has = rolls (record t { ending = Some (Rolled cause t.prefix) }) t.now.writes has
  refuses t cause (Abandon other) has = rolls (record t { ending = Some (Rolled cause t.prefix) }) t.now.writes has
  refuses t cause ask has = has

  asks : (t : Attempt) (stage : Stage) (ask : Ask) → Has t → Has (asked_at t stage ask)
  unfolding asked_at
  asks t (Ready answer) ask has = goes t ask has
  asks t (Late token) ask has = goes t ask has
  asks t (Stopped cause) ask has = refuses t cause ask has
  asks t stage ask has = has

  lates : (t : Attempt) (stage : Stage) → Has t → Has (late_over_at t stage)
  unfolding late_over_at
  lates t (Ready answer) has = turns t (drop t.turn t.now.laters) has
  lates t (Late token) has = turns t (drop t.turn t.now.laters) has
  lates t (Stopped cause) has = rolls (record t { ending = Some (Rolled cause t.prefix) }) t.now.writes has
  lates t stage has = has

  does : (t : Attempt) (dues : List Due) → Has t → Has (did_first t dues)
  does t [] has = has
  does t (Run phase token ∷ dues) has = has
  does t (Ring cell ∷ dues) has = has

-- an attempt before its first access makes no local move
blank_stays : (size limit : ℕ) (t : Attempt) (move : Move) → t.stage ≡ Announce → t.due ≡ [] → May size limit t move → ⊥
unfolding May AwaitsAskAt
blank_stays size limit t (Takes ask) is none may = subst AwaitsAskAt is may.0.stands
blank_stays size limit t (OutOfMemory ask) is none may = subst AwaitsAskAt is may.0.stands
blank_stays size limit t Does is none may = let due : length t.due ≡ 0 = ap length none in omega (arith, due, may)
blank_stays size limit t EndsLate is none may = subst AwaitsAskAt is may.0.stands
blank_stays size limit t (Begins settings) is none may = let never : Announce ≡ Ended = sym is ∙ may.0 in cc
blank_stays size limit t Forgets is none may = let never : Announce ≡ Ended = sym is ∙ may.0 in cc

blank_moves : (size limit : ℕ) (t : Attempt) (moves : List Move) → t.stage ≡ Announce → t.due ≡ [] → MayAll size limit t moves → (moved_on t moves).stage ≡ Announce
blank_moves size limit t [] is none may = is
blank_moves size limit t (move ∷ moves) is none may = absurd (blank_stays size limit t move is none may.0)

-- a local move leaves its number, or the next attempt begins
move_number : (t : Attempt) (move : Move) → ((moved t move).serial ≡ t.serial) ⊎ (((moved t move).stage ≡ Announce) × ((moved t move).due ≡ []))
unfolding moved
move_number t (Takes ask) = inl (asks t.serial t t.stage ask refl)
move_number t (OutOfMemory ask) = inl refl
move_number t Does = inl (does t.serial t t.due refl)
move_number t EndsLate = inl (lates t.serial t t.stage refl)
move_number t (Begins settings) = inr (refl, refl)
move_number t Forgets = inl refl

-- After local moves it has the same number, or it is the next one before its first access.
pub moves_number : (size limit n : ℕ) (t : Attempt) (moves : List Move) → MayAll size limit t moves → t.serial ≡ n → ((moved_on t moves).serial ≡ n) ⊎ ((moved_on t moves).stage ≡ Announce)
moves_number size limit n t [] may has = inl has
moves_number size limit n t (move ∷ moves) may has = ⊎_elim
    (λ same. moves_number size limit n (moved t move) moves may.1 (same ∙ has))
    (λ begins. inr (blank_moves size limit (moved t move) moves begins.0 begins.1 may.1))
    (move_number t move)

-- ---- what an access says

phase_low : (phase : Phase) → phase_number phase ≤ 3
phase_low Idle = omega arith
phase_low Active = omega arith
phase_low Preparing = omega arith
phase_low DoomedPhase = omega arith

word_serial : (status : TxnStatus) → status_word status / 2 ^ 2 ≡ status.serial
unfolding status_word
word_serial status = let low = phase_low status.phase in omega arith

-- A status that an attempt stores has its number.
stores_own : (t : Attempt) (stage : Stage) (p : ℕ) (new : TxnStatus) → next_at t stage ≡ Some (StoreStatus p new) → new.serial ≡ t.serial
unfolding next_at
stores_own t Announce p new is = let same : active t.serial ≡ new = cc is in sym (ap (λ (s : TxnStatus). s.serial) same)
stores_own t Close p new is = let same : record { serial = t.serial; phase = Idle } ≡ new = cc is in sym (ap (λ (s : TxnStatus). s.serial) same)
stores_own t stage p new is = absurd (cc is)

announces : (t : Attempt) (stage : Stage) → stage ≡ Announce → next_at t stage ≡ Some (StoreStatus t.own (active t.serial))
unfolding next_at
announces t stage is = rw is refl

by_act : (n : ℕ) (t : Attempt) (act : Act) → next_at t t.stage ≡ Some act → (t.serial ≡ n) ⊎ (t.stage ≡ Announce) → t.serial ≡ serial_then (access_of act) n
unfolding serial_then access_of
by_act n t (StoreStatus p new) is either = sym (word_serial new ∙ stores_own t t.stage p new is)
by_act n t act is (inl same) = same
by_act n t act is (inr begins) = let this = announces t t.stage begins in absurd (cc (is, this))

pub serial_after : (size limit : ℕ) (before shown : Attempt) (moves : List Move) (access : Access) (found : ℕ) → MayAll size limit before moves → moved_on before moves ≡ shown → next_access shown ≡ Some access
    → (after_word shown found).serial ≡ serial_then access before.serial
serial_after size limit before shown moves access found may reach is =
    let acts = acts_of (next shown) access is in
    let stage = next_stage shown acts.act acts.is_next in
    let moved_there : (shown.serial ≡ before.serial) ⊎ (shown.stage ≡ Announce) =
    subst (λ (t : Attempt). (t.serial ≡ before.serial) ⊎ (t.stage ≡ Announce)) reach (moves_number size limit before.serial before moves may refl) in
    ap (λ (this : Option Act). (after_found shown this found).serial) acts.is_next
    ∙ (after_has shown.serial shown shown.stage (answer_of acts.act found) refl
    ∙ (by_act before.serial shown acts.act stage moved_there ∙ ap (λ (y : Access). serial_then y before.serial) (sym acts.made)))

clock_act : (act : Act) (found clock : ℕ) → clock_then (Some act) found clock ≡ clock_kept (access_of act) found clock
unfolding clock_then clock_kept access_of
clock_act LoadClock found clock = refl
clock_act act found clock = refl

pub clock_after : (shown : Attempt) (access : Access) (found clock : ℕ) → next_access shown ≡ Some access → clock_then (next shown) found clock ≡ clock_kept access found clock
clock_after shown access found clock is =
    let acts = acts_of (next shown) access is in
    ap (λ (this : Option Act). clock_then this found clock) acts.is_next ∙ (clock_act acts.act found clock ∙ ap (λ (y : Access). clock_kept y found clock) (sym acts.made))

-- ---- of a seat

waits_serial : (cell n : ℕ) → serial_then (access_of (SetPending cell)) n ≡ n
unfolding serial_then access_of
waits_serial cell n = refl

waits_clock : (cell found n : ℕ) → clock_kept (access_of (SetPending cell)) found n ≡ n
unfolding clock_kept access_of
waits_clock cell found n = refl

pub serial_kept : (lawful : List ℕ → Type 0) (may : List ℕ → List ℕ → Type 0) (terms : Terms) (access : Access) (found : ℕ) (before after : SeatState) (shown : Option Attempt)
    → MayPerform lawful may terms before.view access shown → Performs access found before after shown → after.view.attempt.serial ≡ serial_then access before.view.attempt.serial
serial_kept lawful may terms access found before after None wait performs =
    ap (λ (view : View). view.attempt.serial) (performs wait.cell wait.sets).0
    ∙ (sym (waits_serial wait.cell before.view.attempt.serial) ∙ ap (λ (y : Access). serial_then y before.view.attempt.serial) (sym wait.sets))
serial_kept lawful may terms access found before after (Some shown) is performs =
    ap (λ (view : View). view.attempt.serial) performs.view
    ∙ serial_after (cells_in terms) terms.limit before.view.attempt shown is.comes.moves access found is.comes.may is.comes.reach is.is_next

pub clock_is_kept : (lawful : List ℕ → Type 0) (may : List ℕ → List ℕ → Type 0) (terms : Terms) (access : Access) (found : ℕ) (before after : SeatState) (shown : Option Attempt)
    → MayPerform lawful may terms before.view access shown → Performs access found before after shown → after.view.clock ≡ clock_kept access found before.view.clock
clock_is_kept lawful may terms access found before after None wait performs =
    ap (λ (view : View). view.clock) (performs wait.cell wait.sets).0
    ∙ (sym (waits_clock wait.cell found before.view.clock) ∙ ap (λ (y : Access). clock_kept y found before.view.clock) (sym wait.sets))
clock_is_kept lawful may terms access found before after (Some shown) is performs =
    ap (λ (view : View). view.clock) performs.view ∙ clock_after shown access found before.view.clock is.is_next
