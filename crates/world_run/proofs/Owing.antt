-- An attempt that is asked for writes that meet what is owed meets it where it wins the exchange of the clock.
use Rattle.std.proofs.Common.{◌≡◌, ℕ, zero, suc, ◌-◌, ◌<◌, Bool, true, false, not, ◌&&◌, nat_eq, nat_lt, get_or, List, [], ◌∷◌, drop, length, arith, Option, Some, None, refl, if◌then◌else◌}
use Rattle.std.specs.Map.{lookup}
use Rattle.std.proofs.lemmas.List.Elements.{All-nil}
use Rattle.meta_word.specs.Meta.{changing_by_another, owned_by_another, same_but_pending, same_meta, still_has}
use Rattle.meta_word.specs.Policy.{dooms}
use Rattle.meta_word.specs.Status.{same_status}
use Rattle.meta_word.specs.declared.meta.Meta.{Meta}
use Rattle.meta_word.specs.declared.status.Phase.TheVariants.{Preparing}
use Rattle.stm_model.specs.Accesses.{Answer, ExchangeClock, Number, OfMeta, OfStatus, active, next, next_at, unless_due}
use Rattle.stm_model.specs.After.{acquire_again, acquiring, after_at, decided, exchanged, extend_on, extended, is_active, mark_on, meta_acquired, meta_read, note_of, note_validated, owner_status_loaded, owner_validated, prepared, read_again, release_level_on, release_on, ring_if, roll_on, rolled, run_all, store_on, validate_on, validated}
use Rattle.stm_model.specs.Attempt.{Attempt, Due, Run, Ring, Stage, Write, Announce, Begin, Ready, Late, Stopped, ReadMeta, ExtendClock, ExtendNote, ReadValue, Validate, AcquireMeta, Acquire, OwnerStatus, OwnerMeta, DoomOwner, ReleaseLevel, Prepare, Mark, CommitClock, CommitNote, Decide, StoreValues, Release, RollBack, Close}
use Rattle.stm_model.specs.CellsState.{Book, outer, returned}
use Rattle.stm_model.specs.Handlers.{committing, preparing}
use Rattle.stm_model.specs.Heap.{put, writes_to}
use Rattle.stm_model.specs.Moves.{AwaitsAskAt, Does, EndsLate, OutOfMemory, Takes, asked_at, asked_going, asked_stopped, conclude, did_first, late_over_at, moved, read_buffered, read_noted, turn_to, undo_level}
use Rattle.stm_model.specs.Owes.{Owes}
use Rattle.stm_model.specs.Refusing.{deepest}
use Rattle.stm_model.specs.declared.access.Ask.{Ask}
use Rattle.stm_model.specs.declared.access.Ask.TheVariants.{Abandon, Enter, Finish, Get, Hook, Keep, Later, Set, Undo}
use Rattle.stm_model.specs.declared.cause.Cause.{Cause}
use Rattle.stm_model.specs.declared.ending.Ending.TheVariants.{Committed, Rolled}
use Rattle.stm_model.specs.declared.note.Note.{Note}
use Rattle.world_run.specs.Going.{BodyMeets, MeetsOwedAt, writes_of}
use Rattle.world_run.specs.Run.{AsksMeetOwed, ClosesOpen, around, innermost}

module _ (lawful : List ℕ → Type 0) (may : List ℕ → List ℕ → Type 0) (size : ℕ) where
  module _ (asks : List Ask) where
    abbrev Meets : Attempt → Type 0
    Meets t = MeetsOwedAt lawful may size asks t.turn t.now.writes (writes_of t.saved) t.stage

    -- it waits, with these writes
    abbrev Waits : Attempt → List Write → Type 0
    Waits t writes = BodyMeets lawful may size asks t.turn writes (writes_of t.saved)

    if_meets : (b : Bool) (t u : Attempt) → Meets t → Meets u → Meets (if b then t else u)
    if_meets true t u first second = first
    if_meets false t u first second = second

    -- ---- it reads

    read_meets : (t : Attempt) (cell left : ℕ) (cause : Cause) → Waits t t.now.writes → Meets (read_again t cell left cause)
    unfolding MeetsOwedAt
    read_meets t cell zero cause meets = tt
    read_meets t cell (suc left) cause meets = meets

    looked_meets : (t : Attempt) (cell left : ℕ) (first : Meta) → Waits t t.now.writes → Meets (meta_read t cell left first)
    unfolding meta_read MeetsOwedAt
    looked_meets t cell left first meets =
        if_meets (changing_by_another t.own first) _ _ (read_meets t cell left _ meets) (if_meets (nat_lt t.prefix first.version) _ _ meets meets)

    extend_meets : (t : Attempt) (cell left : ℕ) (first : Meta) (clock : ℕ) (behind : List Note) → Waits t t.now.writes
        → Meets (extend_on t cell left first clock behind)
    unfolding MeetsOwedAt
    extend_meets t cell left first clock [] meets = meets
    extend_meets t cell left first clock (note ∷ behind) meets = meets

    -- ---- it acquires a cell

    module _ (t : Attempt) (cell value : ℕ) (meets : Waits t (put t.now.writes cell value)) where
      again_meets : (left : ℕ) (tried : Bool) (first latest : Meta) → Meets (acquire_again t cell value left tried first latest)
      unfolding MeetsOwedAt
      again_meets zero tried first latest = tt
      again_meets (suc left) tried first latest = meets

      acquiring_meets : (left : ℕ) (tried : Bool) (first : Meta) → Meets (acquiring t cell value left tried first)
      unfolding acquiring MeetsOwedAt
      acquiring_meets left tried first =
          if_meets (owned_by_another t.own first) _ _
          (if_meets (dooms t.settings.policy && not tried) _ _ meets (again_meets left tried first first))
          (if_meets (nat_eq first.owner 0) _ _ meets (again_meets left tried first first))

      acquired_meets : (left : ℕ) (tried : Bool) (note : Option Note) (first : Meta) → Meets (meta_acquired t cell value left tried note first)
      unfolding MeetsOwedAt
      acquired_meets left tried None first = acquiring_meets left tried first
      acquired_meets left tried (Some note) first = if_meets (nat_eq note.version first.version) _ _ (acquiring_meets left tried first) tt

      exchanged_meets : (left : ℕ) (tried : Bool) (first expected : Meta) (again : Bool) (found : Meta) → Meets (exchanged t cell value left tried first expected again found)
      unfolding exchanged MeetsOwedAt
      exchanged_meets left tried first expected again found =
          if_meets (same_meta found expected) _ _ meets
          (if_meets (not again && same_but_pending found expected) _ _ meets (again_meets left tried first found))

    -- ---- it undoes a level

    level_meets : (t : Attempt) (kept behind : List Write) → BodyMeets lawful may size asks t.turn (innermost t.now.writes (writes_of t.saved)) (around (writes_of t.saved)) → Meets (release_level_on t kept behind)
    unfolding MeetsOwedAt
    level_meets t kept [] meets = go t.saved meets
      where
        go : (levels : List Book) → BodyMeets lawful may size asks t.turn (innermost t.now.writes (writes_of levels)) (around (writes_of levels))
            → BodyMeets lawful may size asks t.turn (returned levels t.now).writes (writes_of (outer levels))
        go [] meets = meets
        go (former ∷ books) meets = meets
    level_meets t kept (write ∷ behind) meets = meets

    -- ---- it ends

    roll_meets : (t : Attempt) (behind : List Write) → Meets (roll_on t behind)
    unfolding MeetsOwedAt
    roll_meets t [] = tt
    roll_meets t (write ∷ behind) = tt

    rolled_meets : (t : Attempt) (cause : Cause) → Meets (rolled t cause)
    rolled_meets t cause = roll_meets (record t { ending = Some (Rolled cause t.prefix) }) t.now.writes

    release_meets : (t : Attempt) (behind : List Write) → Meets (release_on t behind)
    unfolding MeetsOwedAt
    release_meets t [] = tt
    release_meets t (write ∷ behind) = tt

    store_meets : (t : Attempt) (behind : List Write) → Meets (store_on t behind)
    unfolding MeetsOwedAt
    store_meets t [] = release_meets t t.now.writes
    store_meets t (write ∷ behind) = tt

    mark_meets : (t : Attempt) (behind : List Write) → Owes lawful may size [] t.now.writes → Meets (mark_on t behind)
    unfolding MeetsOwedAt
    mark_meets t [] owes = owes
    mark_meets t (write ∷ behind) owes = owes

    validate_meets : (t : Attempt) (lost clock : ℕ) (behind : List Note) → Owes lawful may size [] t.now.writes → Meets (validate_on t lost clock behind)
    unfolding validate_on MeetsOwedAt
    validate_meets t lost clock [] owes = if_meets (nat_eq clock t.settings.clock) _ _ (rolled_meets (record t { prefix = clock }) _) owes
    validate_meets t lost clock (note ∷ behind) owes = owes

    decided_meets : (t : Attempt) (lost clock found : ℕ) → Owes lawful may size [] t.now.writes → Meets (decided t lost clock found)
    unfolding decided MeetsOwedAt
    decided_meets t lost clock found owes =
        if_meets (nat_eq found clock) _ _ (store_meets (record t { ending = Some (Committed (suc clock)); due = run_all (committing t.now.hooks) }) t.now.writes)
        (if_meets (nat_lt lost t.settings.tries) _ _ owes (rolled_meets t _))

    -- ---- answers

    pub after_meets : (t : Attempt) (stage : Stage) (answer : Answer) → t.stage ≡ stage → MeetsOwedAt lawful may size asks t.turn t.now.writes (writes_of t.saved) stage → Meets (after_at t stage answer)
    unfolding after_at extended validated owner_status_loaded owner_validated prepared note_validated MeetsOwedAt
    after_meets t Announce (OfStatus found) is meets = meets
    after_meets t Begin (Number clock) is meets = meets
    after_meets t (ReadMeta cell left) (OfMeta found) is meets = looked_meets t cell left found meets
    after_meets t (ExtendClock cell left first) (Number clock) is meets = extend_meets t cell left first clock t.notes meets
    after_meets t (ExtendNote cell left first clock note behind) (OfMeta found) is meets =
        if_meets (still_has t.own note.version found) _ _ (extend_meets t cell left first clock behind meets) tt
    after_meets t (ReadValue cell left first) (Number value) is meets = meets
    after_meets t (Validate cell left first value) (OfMeta found) is meets =
        if_meets (still_has t.own first.version found) _ _ meets (read_meets t cell left _ meets)
    after_meets t (AcquireMeta cell value left tried) (OfMeta found) is meets = acquired_meets t cell value meets left tried (note_of t.notes cell) found
    after_meets t (Acquire cell value left tried first expected again) (OfMeta found) is meets = exchanged_meets t cell value meets left tried first expected again found
    after_meets t (OwnerStatus cell value left first) (OfStatus found) is meets =
        if_meets (is_active found.phase) _ _ meets (again_meets t cell value meets left true first first)
    after_meets t (OwnerMeta cell value left first status) (OfMeta found) is meets =
        if_meets (nat_eq found.owner first.owner && not found.changing) _ _ meets (again_meets t cell value meets left true first found)
    after_meets t (DoomOwner cell value left first second status) (OfStatus found) is meets = again_meets t cell value meets left true first second
    after_meets t (ReleaseLevel kept write behind) (OfMeta found) is meets = level_meets (record t { due = ring_if found.pending write.0 }) kept behind meets
    after_meets t Prepare (OfStatus found) is meets =
        if_meets (same_status found (active t.serial)) _ _ (mark_meets (record t { phase = Preparing; due = run_all (preparing t.now.hooks) }) t.now.writes meets) (rolled_meets t _)
    after_meets t (Mark write behind) (OfMeta found) is meets = mark_meets t behind meets
    after_meets t (CommitClock lost) (Number clock) is meets = validate_meets t lost clock t.notes meets
    after_meets t (CommitNote lost clock note behind) (OfMeta found) is meets =
        if_meets (still_has t.own note.version found) _ _ (validate_meets t lost clock behind meets) (rolled_meets t _)
    after_meets t (Decide lost clock) (Number found) is meets = decided_meets t lost clock found meets
    after_meets t (StoreValues write behind) (Number found) is meets = store_meets t behind
    after_meets t (Release write behind) (OfMeta found) is meets = release_meets (record t { due = ring_if found.pending write.0 }) behind
    after_meets t (RollBack write behind) (OfMeta found) is meets = roll_meets (record t { due = ring_if found.pending write.0 }) behind
    after_meets t Close (OfStatus found) is meets = tt
    after_meets t stage answer is meets = rw is meets

    -- ---- local moves

    pub does_meets : (t : Attempt) → Meets t → Meets (moved t Does)
    unfolding moved
    does_meets t meets = go t.due
      where
        go : (due : List Due) → Meets (did_first t due)
        go [] = meets
        go (Run phase token ∷ dues) = meets
        go (Ring cell ∷ dues) = meets

    noted_meets : (t : Attempt) (cell : ℕ) (note : Option Note) → Waits t t.now.writes → Meets (read_noted t cell note)
    unfolding MeetsOwedAt
    noted_meets t cell None meets = meets
    noted_meets t cell (Some note) meets = meets

    buffered_meets : (t : Attempt) (cell : ℕ) (value : Option ℕ) → Waits t t.now.writes → Meets (read_buffered t cell value)
    unfolding MeetsOwedAt
    buffered_meets t cell None meets = noted_meets t cell (note_of t.notes cell) meets
    buffered_meets t cell (Some value) meets = meets

    conclude_meets : (t : Attempt) (writes : List Write) → Owes lawful may size [] t.now.writes → Meets (conclude t writes)
    unfolding MeetsOwedAt
    conclude_meets t [] owes = tt
    conclude_meets t (write ∷ writes) owes = owes

    -- Before-commit bodies ask for nothing, so the writes stay.
    turn_meets : (t : Attempt) (tokens : List ℕ) → Owes lawful may size [] t.now.writes → Meets (turn_to t tokens)
    unfolding MeetsOwedAt BodyMeets
    turn_meets t [] owes = conclude_meets t t.now.writes owes
    turn_meets t (token ∷ tokens) owes = owes

    owes_late : (writes : List Write) (levels : List (List Write)) (turn : ℕ) → 0 < turn → BodyMeets lawful may size asks turn writes levels → Owes lawful may size [] writes
    unfolding BodyMeets
    owes_late writes levels zero late meets = absurd (omega (arith, late))
    owes_late writes levels (suc turn) late meets = meets

    -- ---- asks of the body

    -- with such writes and levels, the asks that follow are right
    abbrev Right : List Write → List (List Write) → List Ask → Type 0
    Right writes levels asks = AsksMeetOwed lawful may size writes levels asks × ClosesOpen (length levels) asks

    module _ (t : Attempt) (own : t.turn ≡ 0) where
      waits_with : (writes : List Write) (levels : List (List Write)) → Right writes levels asks → BodyMeets lawful may size asks t.turn writes levels
      unfolding BodyMeets
      waits_with writes levels right = rw own right

      keep_meets : (levels : List Book) → Right t.now.writes (writes_of levels) (Keep ∷ asks) → BodyMeets lawful may size asks t.turn t.now.writes (writes_of (outer levels))
      unfolding AsksMeetOwed ClosesOpen
      keep_meets [] right = absurd (omega (arith, right.1.0))
      keep_meets (former ∷ books) right =
          let less : length (former.writes ∷ writes_of books) - 1 ≡ length (writes_of books) = omega arith in
          waits_with t.now.writes (writes_of books) (right.0, rw less at right.1.1)

      undo_meets : (levels : List Book) → t.saved ≡ levels → Right t.now.writes (writes_of levels) (Undo ∷ asks) → Meets (undo_level t levels)
      unfolding AsksMeetOwed ClosesOpen
      undo_meets [] is right = absurd (omega (arith, right.1.0))
      undo_meets (former ∷ books) is right =
          let less : length (former.writes ∷ writes_of books) - 1 ≡ length (writes_of books) = omega arith in
          level_meets t former.writes (drop (length former.writes) t.now.writes) (rw is (waits_with former.writes (writes_of books) (right.0, rw less at right.1.1)))

      going_meets : (ask : Ask) → Right t.now.writes (writes_of t.saved) (ask ∷ asks) → Meets (asked_going t ask)
      unfolding asked_going AsksMeetOwed ClosesOpen MeetsOwedAt
      going_meets (Get cell) right = buffered_meets t cell.0 (lookup (nat_eq cell.0) t.now.writes) (waits_with _ _ right)
      going_meets (Set cell value) right = if_meets (writes_to t.now.writes cell.0) _ _ (waits_with _ _ right) (waits_with _ _ right)
      going_meets Enter right = if_meets (nat_lt (length t.saved) deepest) _ _ (waits_with _ _ right) tt
      going_meets Keep right = keep_meets t.saved right
      going_meets Undo right = undo_meets t.saved refl right
      going_meets (Hook phase token) right = waits_with _ _ right
      going_meets (Later token) right = waits_with _ _ right
      going_meets Finish right = turn_meets t (drop t.turn t.now.laters) right.0
      going_meets (Abandon cause) right = rolled_meets t cause

    stopped_meets : (t : Attempt) (cause : Cause) (ask : Ask) → t.stage ≡ Stopped cause → Meets (asked_stopped t cause ask)
    unfolding asked_stopped MeetsOwedAt
    stopped_meets t cause Finish is = rolled_meets t cause
    stopped_meets t cause (Abandon other) is = rolled_meets t cause
    stopped_meets t cause ask is = rw is tt

    right_of : (t : Attempt) → t.turn ≡ 0 → (ask : Ask) → BodyMeets lawful may size (ask ∷ asks) t.turn t.now.writes (writes_of t.saved) → Right t.now.writes (writes_of t.saved) (ask ∷ asks)
    unfolding BodyMeets
    right_of t own ask meets = rw own at meets

    asked_meets : (t : Attempt) (stage : Stage) (ask : Ask) → t.stage ≡ stage → t.turn ≡ 0 → AwaitsAskAt stage
        → MeetsOwedAt lawful may size (ask ∷ asks) t.turn t.now.writes (writes_of t.saved) stage → Meets (asked_at t stage ask)
    unfolding asked_at AwaitsAskAt MeetsOwedAt
    asked_meets t (Ready told) ask is own waits meets = going_meets t own ask (right_of t own ask meets)
    asked_meets t (Late token) ask is own waits meets = going_meets t own ask (right_of t own ask meets)
    asked_meets t (Stopped cause) ask is own waits meets = stopped_meets t cause ask is
    asked_meets t stage ask is own waits meets = absurd waits

    pub takes_meets : (t : Attempt) (ask : Ask) → t.turn ≡ 0 → AwaitsAskAt t.stage → MeetsOwedAt lawful may size (ask ∷ asks) t.turn t.now.writes (writes_of t.saved) t.stage → Meets (moved t (Takes ask))
    unfolding moved
    takes_meets t ask own waits meets = asked_meets t t.stage ask refl own waits meets

    pub refuses_meets : (t : Attempt) (ask : Ask) → Meets (moved t (OutOfMemory ask))
    unfolding moved MeetsOwedAt
    refuses_meets t ask = tt

    -- A before-commit body is over, and has asked for nothing.
    late_meets : (t : Attempt) (stage : Stage) → 0 < t.turn → AwaitsAskAt stage → MeetsOwedAt lawful may size asks t.turn t.now.writes (writes_of t.saved) stage → Meets (late_over_at t stage)
    unfolding late_over_at AwaitsAskAt MeetsOwedAt
    late_meets t (Ready told) late waits meets = turn_meets t (drop t.turn t.now.laters) (owes_late t.now.writes (writes_of t.saved) t.turn late meets)
    late_meets t (Late token) late waits meets = turn_meets t (drop t.turn t.now.laters) (owes_late t.now.writes (writes_of t.saved) t.turn late meets)
    late_meets t (Stopped cause) late waits meets = rolled_meets t cause
    late_meets t stage late waits meets = absurd waits

    pub meets_late : (t : Attempt) → 0 < t.turn → AwaitsAskAt t.stage → Meets t → Meets (moved t EndsLate)
    unfolding moved
    meets_late t late waits meets = late_meets t t.stage late waits meets

    -- ---- where it wins

    owes_at : (t : Attempt) (stage : Stage) (old : ℕ) → next_at t stage ≡ Some (ExchangeClock old) → MeetsOwedAt lawful may size asks t.turn t.now.writes (writes_of t.saved) stage → Owes lawful may size [] t.now.writes
    unfolding next_at MeetsOwedAt
    owes_at t (Decide lost clock) old is meets = meets
    owes_at t stage old is meets = cc

    owes_due : (t : Attempt) (due : List Due) (old : ℕ) → unless_due due (next_at t t.stage) ≡ Some (ExchangeClock old) → Meets t → Owes lawful may size [] t.now.writes
    owes_due t [] old is meets = owes_at t t.stage old is meets
    owes_due t (first ∷ due) old is meets = cc

    pub owes_next : (t : Attempt) (old : ℕ) → next t ≡ Some (ExchangeClock old) → Meets t → Owes lawful may size t.notes t.now.writes
    owes_next t old is meets heap possible =
        owes_due t t.due old is meets heap (record { cells = possible.cells; words = possible.words; keeps_law = possible.keeps_law; agrees = All-nil (λ note. get_or heap note.addr.0 0 ≡ note.value) })
