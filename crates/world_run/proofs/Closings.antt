-- An attempt that has begun to commit or to roll back goes on so until it is over.
use Rattle.std.proofs.Common.{◌≡◌, ◌⊎◌, inl, inr, ℕ, suc, ◌<◌, Bool, true, false, nat_eq, nat_lt, List, [], ◌∷◌, drop, IsTrue, Option, Some, None, ap, sym, ◌∙◌, refl, if◌then◌else◌, arith}
use Rattle.meta_word.specs.Meta.{still_has}
use Rattle.meta_word.specs.declared.status.Phase.TheVariants.{Preparing}
use Rattle.stm_core.specs.Machine.{next_of}
use Rattle.stm_model.specs.Accesses.{Answer, Number, OfMeta, OfStatus, active, next_at, unless_due}
use Rattle.meta_word.specs.Status.{same_status}
use Rattle.stm_model.specs.After.{after, after_at, validate_on, note_validated, decided, mark_on, prepared, release_on, ring_if, roll_on, rolled, run_all, store_on}
use Rattle.stm_model.specs.Attempt.{Attempt, Due, Run, Ring, Stage, Write, Announce, Begin, Ready, Late, Stopped, ReadMeta, ExtendClock, ExtendNote, ReadValue, Validate, AcquireMeta, Acquire, OwnerStatus, OwnerMeta, DoomOwner, ReleaseLevel, Prepare, Mark, CommitClock, CommitNote, Decide, StoreValues, Release, RollBack, Close, Ended}
use Rattle.stm_model.specs.HandlerRuns.{is_rolled}
use Rattle.stm_model.specs.Handlers.{committing, preparing}
use Rattle.stm_model.specs.Moves.{AwaitsAsk, AwaitsAskAt, Does, EndsLate, OutOfMemory, Takes, asked_at, asked_going, asked_stopped, conclude, did_first, late_over_at, moved, turn_to}
use Rattle.stm_model.specs.declared.access.Ask.{Ask}
use Rattle.stm_model.specs.declared.access.Ask.TheVariants.{Abandon, Finish}
use Rattle.stm_model.specs.declared.cause.Cause.{Cause}
use Rattle.stm_model.specs.declared.ending.Ending.{Ending}
use Rattle.stm_model.specs.declared.ending.Ending.TheVariants.{Committed, Rolled}
use Rattle.stm_model.specs.declared.note.Note.{Note}
use Rattle.world_run.specs.Going.{IsClosing, LostAt}
use Rattle.world_run.specs.Simulation.{IsOver, replies}
use Rattle.world_run.proofs.Nexts.{is_quiet}

abbrev Closing : Attempt → Type 0
Closing t = IsClosing t.stage

if_closing : (b : Bool) (t u : Attempt) → Closing t → Closing u → Closing (if b then t else u)
if_closing true t u first second = first
if_closing false t u first second = second

mark_closing : (t : Attempt) (behind : List Write) → Closing (mark_on t behind)
unfolding IsClosing
mark_closing t [] = tt
mark_closing t (write ∷ behind) = tt

release_closing : (t : Attempt) (behind : List Write) → Closing (release_on t behind)
unfolding IsClosing
release_closing t [] = tt
release_closing t (write ∷ behind) = tt

store_closing : (t : Attempt) (behind : List Write) → Closing (store_on t behind)
unfolding IsClosing
store_closing t [] = release_closing t t.now.writes
store_closing t (write ∷ behind) = tt

roll_closing : (t : Attempt) (behind : List Write) → Closing (roll_on t behind)
unfolding IsClosing
roll_closing t [] = tt
roll_closing t (write ∷ behind) = tt

pub rolled_closing : (t : Attempt) (cause : Cause) → Closing (rolled t cause)
rolled_closing t cause = roll_closing (record t { ending = Some (Rolled cause t.prefix) }) t.now.writes

check_closing : (t : Attempt) (lost clock : ℕ) (behind : List Note) → Closing (validate_on t lost clock behind)
unfolding validate_on IsClosing
check_closing t lost clock [] = if_closing (nat_eq clock t.settings.clock) _ _ (rolled_closing (record t { prefix = clock }) _) tt
check_closing t lost clock (note ∷ behind) = tt

decided_closing : (t : Attempt) (lost clock found : ℕ) → Closing (decided t lost clock found)
unfolding decided IsClosing
decided_closing t lost clock found =
    if_closing (nat_eq found clock) _ _ (store_closing (record t { ending = Some (Committed (suc clock)); due = run_all (committing t.now.hooks) }) t.now.writes)
    (if_closing (nat_lt lost t.settings.tries) _ _ tt (rolled_closing t _))

after_closing : (t : Attempt) (stage : Stage) (answer : Answer) → t.stage ≡ stage → IsClosing stage → Closing (after_at t stage answer)
unfolding after_at IsClosing note_validated prepared
after_closing t Prepare (OfStatus found) is closing =
    if_closing (same_status found (active t.serial)) _ _ (mark_closing (record t { phase = Preparing; due = run_all (preparing t.now.hooks) }) t.now.writes) (rolled_closing t _)
after_closing t (Mark write behind) (OfMeta found) is closing = mark_closing t behind
after_closing t (CommitClock lost) (Number clock) is closing = check_closing t lost clock t.notes
after_closing t (CommitNote lost clock note behind) (OfMeta found) is closing =
    if_closing (still_has t.own note.version found) _ _ (check_closing t lost clock behind) (rolled_closing t _)
after_closing t (Decide lost clock) (Number found) is closing = decided_closing t lost clock found
after_closing t (StoreValues write behind) (Number found) is closing = store_closing t behind
after_closing t (Release write behind) (OfMeta found) is closing = release_closing (record t { due = ring_if found.pending write.0 }) behind
after_closing t (RollBack write behind) (OfMeta found) is closing = roll_closing (record t { due = ring_if found.pending write.0 }) behind
after_closing t Close (OfStatus found) is closing = tt
after_closing t Announce answer is closing = absurd closing
after_closing t Begin answer is closing = absurd closing
after_closing t (ReadMeta cell left) answer is closing = absurd closing
after_closing t (ExtendClock cell left first) answer is closing = absurd closing
after_closing t (ExtendNote cell left first clock note behind) answer is closing = absurd closing
after_closing t (ReadValue cell left first) answer is closing = absurd closing
after_closing t (Validate cell left first value) answer is closing = absurd closing
after_closing t (AcquireMeta cell value left tried) answer is closing = absurd closing
after_closing t (Acquire cell value left tried first expected again) answer is closing = absurd closing
after_closing t (OwnerStatus cell value left first) answer is closing = absurd closing
after_closing t (OwnerMeta cell value left first status) answer is closing = absurd closing
after_closing t (DoomOwner cell value left first second status) answer is closing = absurd closing
after_closing t (ReleaseLevel kept write behind) answer is closing = absurd closing
after_closing t stage answer is closing = rw is closing

pub closing_after : (t : Attempt) (answer : Answer) → IsClosing t.stage → IsClosing (after t answer).stage
closing_after t answer closing = after_closing t t.stage answer refl closing

pub closing_does : (t : Attempt) → IsClosing t.stage → IsClosing (moved t Does).stage
unfolding moved
closing_does t closing = go t.due
  where
    go : (due : List Due) → IsClosing (did_first t due).stage
    go [] = closing
    go (Run phase token ∷ dues) = closing
    go (Ring cell ∷ dues) = closing

-- Who is closing doesn't wait to be asked.
pub closing_waits : {A : Type 0} (stage : Stage) → IsClosing stage → AwaitsAskAt stage → A
unfolding IsClosing AwaitsAskAt
closing_waits (Ready told) closing waits = absurd closing
closing_waits (Late token) closing waits = absurd closing
closing_waits (Stopped cause) closing waits = absurd closing
closing_waits stage closing waits = absurd waits

-- ---- the end of a body

pub conclude_closing : (t : Attempt) (writes : List Write) → Closing (conclude t writes)
unfolding IsClosing
conclude_closing t [] = tt
conclude_closing t (write ∷ writes) = tt

-- The end comes, or else a before-commit body has its turn.
pub turn_closing : (t : Attempt) (tokens : List ℕ) → Closing (turn_to t tokens) ⊎ (0 < (turn_to t tokens).turn)
turn_closing t [] = inl (conclude_closing t t.now.writes)
turn_closing t (token ∷ tokens) = inr (omega arith)

finish_at : (t : Attempt) (stage : Stage) → AwaitsAskAt stage → Closing (asked_at t stage Finish) ⊎ (0 < (asked_at t stage Finish).turn)
unfolding asked_at asked_going asked_stopped AwaitsAskAt
finish_at t (Ready told) waits = turn_closing t (drop t.turn t.now.laters)
finish_at t (Late token) waits = turn_closing t (drop t.turn t.now.laters)
finish_at t (Stopped cause) waits = inl (rolled_closing t cause)
finish_at t stage waits = absurd waits

pub finish_closing : (t : Attempt) → AwaitsAskAt t.stage → IsClosing (moved t (Takes Finish)).stage ⊎ (0 < (moved t (Takes Finish)).turn)
unfolding moved
finish_closing t waits = finish_at t t.stage waits

-- ---- who was refused something

abbrev Gone : Attempt → Type 0
Gone t = LostAt t.stage t.ending

roll_gone : (t : Attempt) (behind : List Write) → IsTrue (is_rolled t.ending) → Gone (roll_on t behind)
unfolding LostAt
roll_gone t [] rolled = rolled
roll_gone t (write ∷ behind) rolled = rolled

after_gone : (t : Attempt) (stage : Stage) (answer : Answer) → t.stage ≡ stage → LostAt stage t.ending → Gone (after_at t stage answer)
unfolding after_at LostAt
after_gone t (RollBack write behind) (OfMeta found) is gone = roll_gone (record t { due = ring_if found.pending write.0 }) behind gone
after_gone t Close (OfStatus found) is gone = gone
after_gone t Announce answer is gone = absurd gone
after_gone t Begin answer is gone = absurd gone
after_gone t (ReadMeta cell left) answer is gone = absurd gone
after_gone t (ExtendClock cell left first) answer is gone = absurd gone
after_gone t (ExtendNote cell left first clock note behind) answer is gone = absurd gone
after_gone t (ReadValue cell left first) answer is gone = absurd gone
after_gone t (Validate cell left first value) answer is gone = absurd gone
after_gone t (AcquireMeta cell value left tried) answer is gone = absurd gone
after_gone t (Acquire cell value left tried first expected again) answer is gone = absurd gone
after_gone t (OwnerStatus cell value left first) answer is gone = absurd gone
after_gone t (OwnerMeta cell value left first status) answer is gone = absurd gone
after_gone t (DoomOwner cell value left first second status) answer is gone = absurd gone
after_gone t (ReleaseLevel kept write behind) answer is gone = absurd gone
after_gone t Prepare answer is gone = absurd gone
after_gone t (Mark write behind) answer is gone = absurd gone
after_gone t (CommitClock lost) answer is gone = absurd gone
after_gone t (CommitNote lost clock note behind) answer is gone = absurd gone
after_gone t (Decide lost clock) answer is gone = absurd gone
after_gone t (StoreValues write behind) answer is gone = absurd gone
after_gone t (Release write behind) answer is gone = absurd gone
after_gone t stage answer is gone = rw is gone

pub gone_after : (t : Attempt) (answer : Answer) → Gone t → Gone (after t answer)
gone_after t answer gone = after_gone t t.stage answer refl gone

pub gone_does : (t : Attempt) → Gone t → Gone (moved t Does)
unfolding moved
gone_does t gone = go t.due
  where
    go : (due : List Due) → Gone (did_first t due)
    go [] = gone
    go (Run phase token ∷ dues) = gone
    go (Ring cell ∷ dues) = gone

rolled_gone : (t : Attempt) (cause : Cause) → Gone (rolled t cause)
rolled_gone t cause = roll_gone (record t { ending = Some (Rolled cause t.prefix) }) t.now.writes refl

stopped_gone : (t : Attempt) (cause : Cause) (ask : Ask) → t.stage ≡ Stopped cause → Gone (asked_stopped t cause ask)
unfolding asked_stopped LostAt
stopped_gone t cause Finish is = rolled_gone t cause
stopped_gone t cause (Abandon other) is = rolled_gone t cause
stopped_gone t cause ask is = rw is tt

asked_gone : (t : Attempt) (stage : Stage) (ask : Ask) → t.stage ≡ stage → LostAt stage t.ending → Gone (asked_at t stage ask)
unfolding asked_at LostAt
asked_gone t (Ready told) ask is gone = absurd gone
asked_gone t (Late token) ask is gone = absurd gone
asked_gone t (Stopped cause) ask is gone = stopped_gone t cause ask is
asked_gone t stage ask is gone = rw is gone

pub gone_takes : (t : Attempt) (ask : Ask) → Gone t → Gone (moved t (Takes ask))
unfolding moved
gone_takes t ask gone = asked_gone t t.stage ask refl gone

pub gone_refuses : (t : Attempt) (ask : Ask) → Gone (moved t (OutOfMemory ask))
unfolding moved LostAt
gone_refuses t ask = tt

-- Who is closing then is rolled back.
pub gone_rolled : (stage : Stage) (ending : Option Ending) → IsClosing stage → LostAt stage ending → IsTrue (is_rolled ending)
unfolding IsClosing LostAt
gone_rolled (Stopped cause) ending closing gone = absurd closing
gone_rolled (RollBack write behind) ending closing gone = gone
gone_rolled Close ending closing gone = gone
gone_rolled Ended ending closing gone = gone
gone_rolled stage ending closing gone = absurd gone

-- ---- a before-commit body that is over

late_gone : (t : Attempt) (stage : Stage) → AwaitsAskAt stage → LostAt stage t.ending → Gone (late_over_at t stage)
unfolding late_over_at AwaitsAskAt LostAt
late_gone t (Ready told) waits gone = absurd gone
late_gone t (Late token) waits gone = absurd gone
late_gone t (Stopped cause) waits gone = rolled_gone t cause
late_gone t stage waits gone = absurd waits

pub gone_late : (t : Attempt) → AwaitsAskAt t.stage → Gone t → Gone (moved t EndsLate)
unfolding moved
gone_late t waits gone = late_gone t t.stage waits gone

-- ---- where it replies

rests_at : (t : Attempt) (stage : Stage) → next_at t stage ≡ None → AwaitsAskAt stage ⊎ (stage ≡ Ended)
unfolding next_at AwaitsAskAt
rests_at t (Ready told) is = inl tt
rests_at t (Late token) is = inl tt
rests_at t (Stopped cause) is = inl tt
rests_at t Ended is = inr refl
rests_at t stage is = cc

-- Who replies waits to be asked, or is over.
pub replies_so : (t : Attempt) → IsTrue (replies (next_of t)) → AwaitsAsk t ⊎ IsOver t
replies_so t is =
    let both = is_quiet t (next_of t) refl is in
    let none : next_at t t.stage ≡ None = ap (λ (due : List Due). unless_due due (next_at t t.stage)) (sym both.1) ∙ both.0 in
    elim (rests_at t t.stage none) [
      | inl waits ↦ inl (record { stands = waits; nothing_due = both.1 })
      | inr over ↦ inr (record { ended = over; nothing_due = both.1 })
    ]

-- Who replies and is closing is over.
pub ends_settled : (t : Attempt) → IsClosing t.stage → IsTrue (replies (next_of t)) → IsOver t
ends_settled t closing is = elim (replies_so t is) [
  | inl waits ↦ closing_waits t.stage closing waits.stands
  | inr over ↦ over
]

-- Who replies and doesn't wait to be asked is closing.
pub ended_closing : (t : Attempt) → IsTrue (replies (next_of t)) → (AwaitsAsk t → ⊥) → IsClosing t.stage
unfolding IsClosing
ended_closing t is not = elim (replies_so t is) [
  | inl waits ↦ absurd (not waits)
  | inr over ↦ rw over.ended tt
]
