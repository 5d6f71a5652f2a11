-- With which ending an attempt comes to its end, by how its body was over.
use Rattle.std.proofs.Common.{◌≡◌, ℕ, suc, ◌<◌, ◌⊎◌, Bool, true, false, nat_eq, nat_lt, if◌then◌else◌, List, [], ◌∷◌, length, Option, Some, refl, subst, ⊎_elim, arith}
use Rattle.meta_word.specs.Meta.{still_has}
use Rattle.meta_word.specs.Status.{same_status}
use Rattle.meta_word.specs.declared.status.Phase.TheVariants.{Preparing}
use Rattle.stm_model.specs.Accesses.{Answer, Number, OfMeta, OfStatus, active}
use Rattle.stm_model.specs.After.{after, after_at, decided, mark_on, note_validated, prepared, release_on, ring_if, roll_on, rolled, run_all, stale, store_on, validate_on}
use Rattle.stm_model.specs.Attempt.{Attempt, Due, Run, Ring, Stage, Write, Announce, Begin, ReadMeta, ExtendClock, ExtendNote, ReadValue, Validate, AcquireMeta, Acquire, OwnerStatus, OwnerMeta, DoomOwner, ReleaseLevel, Prepare, Mark, CommitClock, CommitNote, Decide, StoreValues, Release, RollBack, Close, Ended}
use Rattle.stm_model.specs.HandlerRuns.{Step, led}
use Rattle.stm_model.specs.Handlers.{committing, preparing}
use Rattle.stm_model.specs.Moves.{conclude, did_first}
use Rattle.stm_model.specs.Refusing.{IsOfBody, IsOfCells}
use Rattle.stm_model.specs.declared.cause.Cause.{Cause}
use Rattle.stm_model.specs.declared.cause.Cause.TheVariants.{ClockEnd, ClockMoved, Doomed, Stale}
use Rattle.stm_model.specs.declared.ending.Ending.{Ending}
use Rattle.stm_model.specs.declared.ending.Ending.TheVariants.{Committed, Read, Rolled}
use Rattle.stm_model.specs.declared.note.Note.{Note}
use Rattle.txn_drive.specs.Paying.{IsLed}
use Rattle.txn_drive.proofs.Owing.{over_steps}
use Rattle.txn_run.specs.Outcomes.{IsWord}

-- the causes with which a commit is rolled back
unfoldable pub IsOfCommit : Cause → Type 0
IsOfCommit (Doomed status) = Unit {0}
IsOfCommit (Stale cell version meta) = Unit {0}
IsOfCommit (ClockMoved first second) = Unit {0}
IsOfCommit (ClockEnd clock) = Unit {0}
IsOfCommit cause = ⊥

-- the endings of who commits
unfoldable EndsCommit : Option Ending → Type 0
EndsCommit (Some (Committed stamp)) = Unit {0}
EndsCommit (Some (Rolled cause prefix)) = IsOfCommit cause
EndsCommit ending = ⊥

-- ---- what an ending meets, step by step

-- each ending of who commits meets it
abbrev CommitMeets : (Option Ending → Type 0) → Type 0
CommitMeets Meets = (ending : Option Ending) → EndsCommit ending → Meets ending

-- Its ending meets this, or it commits and whatever it ends with will.
unfoldable MeetsAt : (Option Ending → Type 0) → Stage → Option Ending → Type 0
MeetsAt Meets Prepare ending = CommitMeets Meets
MeetsAt Meets (Mark write behind) ending = CommitMeets Meets
MeetsAt Meets (CommitClock lost) ending = CommitMeets Meets
MeetsAt Meets (CommitNote lost clock note behind) ending = CommitMeets Meets
MeetsAt Meets (Decide lost clock) ending = CommitMeets Meets
MeetsAt Meets (StoreValues write behind) ending = Meets ending
MeetsAt Meets (Release write behind) ending = Meets ending
MeetsAt Meets (RollBack write behind) ending = Meets ending
MeetsAt Meets Close ending = Meets ending
MeetsAt Meets Ended ending = Meets ending
MeetsAt Meets stage ending = ⊥

module _ (Meets : Option Ending → Type 0) where
  abbrev Closes : Attempt → Type 0
  Closes t = MeetsAt Meets t.stage t.ending

  if_closes : (b : Bool) (t u : Attempt) → Closes t → Closes u → Closes (if b then t else u)
  if_closes true t u first second = first
  if_closes false t u first second = second

  roll_closes : (t : Attempt) (behind : List Write) → Meets t.ending → Closes (roll_on t behind)
  unfolding MeetsAt
  roll_closes t [] meets = meets
  roll_closes t (write ∷ behind) meets = meets

  rolled_closes : (t : Attempt) (cause : Cause) → CommitMeets Meets → IsOfCommit cause → Closes (rolled t cause)
  unfolding EndsCommit
  rolled_closes t cause may of = roll_closes (record t { ending = Some (Rolled cause t.prefix) }) t.now.writes (may (Some (Rolled cause t.prefix)) of)

  release_closes : (t : Attempt) (behind : List Write) → Meets t.ending → Closes (release_on t behind)
  unfolding MeetsAt
  release_closes t [] meets = meets
  release_closes t (write ∷ behind) meets = meets

  store_closes : (t : Attempt) (behind : List Write) → Meets t.ending → Closes (store_on t behind)
  unfolding MeetsAt
  store_closes t [] meets = release_closes t t.now.writes meets
  store_closes t (write ∷ behind) meets = meets

  mark_closes : (t : Attempt) (behind : List Write) → CommitMeets Meets → Closes (mark_on t behind)
  unfolding MeetsAt
  mark_closes t [] may = may
  mark_closes t (write ∷ behind) may = may

  validate_closes : (t : Attempt) (lost clock : ℕ) (behind : List Note) → CommitMeets Meets → Closes (validate_on t lost clock behind)
  unfolding validate_on MeetsAt IsOfCommit
  validate_closes t lost clock [] may = if_closes (nat_eq clock t.settings.clock) _ _ (rolled_closes (record t { prefix = clock }) (ClockEnd clock) may tt) may
  validate_closes t lost clock (note ∷ behind) may = may

  decided_closes : (t : Attempt) (lost clock found : ℕ) → CommitMeets Meets → Closes (decided t lost clock found)
  unfolding decided MeetsAt EndsCommit IsOfCommit
  decided_closes t lost clock found may =
      if_closes (nat_eq found clock) _ _
      (store_closes (record t { ending = Some (Committed (suc clock)); due = run_all (committing t.now.hooks) }) t.now.writes (may (Some (Committed (suc clock))) tt))
      (if_closes (nat_lt lost t.settings.tries) _ _ may (rolled_closes t (ClockMoved clock found) may tt))

  closes_at : (t : Attempt) (stage : Stage) (answer : Answer) → t.stage ≡ stage → MeetsAt Meets stage t.ending → Closes (after_at t stage answer)
  unfolding after_at MeetsAt IsOfCommit prepared note_validated
  closes_at t Prepare (OfStatus found) is meets =
      if_closes (same_status found (active t.serial)) _ _ (mark_closes (record t { phase = Preparing; due = run_all (preparing t.now.hooks) }) t.now.writes meets)
      (rolled_closes t (Doomed found) meets tt)
  closes_at t (Mark write behind) (OfMeta found) is meets = mark_closes t behind meets
  closes_at t (CommitClock lost) (Number clock) is meets = validate_closes t lost clock t.notes meets
  closes_at t (CommitNote lost clock note behind) (OfMeta found) is meets =
      if_closes (still_has t.own note.version found) _ _ (validate_closes t lost clock behind meets) (rolled_closes t (stale note found) meets tt)
  closes_at t (Decide lost clock) (Number found) is meets = decided_closes t lost clock found meets
  closes_at t (StoreValues write behind) (Number found) is meets = store_closes t behind meets
  closes_at t (Release write behind) (OfMeta found) is meets = release_closes (record t { due = ring_if found.pending write.0 }) behind meets
  closes_at t (RollBack write behind) (OfMeta found) is meets = roll_closes (record t { due = ring_if found.pending write.0 }) behind meets
  closes_at t Close (OfStatus found) is meets = meets
  closes_at t Announce answer is meets = absurd meets
  closes_at t Begin answer is meets = absurd meets
  closes_at t (ReadMeta cell left) answer is meets = absurd meets
  closes_at t (ExtendClock cell left first) answer is meets = absurd meets
  closes_at t (ExtendNote cell left first clock note behind) answer is meets = absurd meets
  closes_at t (ReadValue cell left first) answer is meets = absurd meets
  closes_at t (Validate cell left first value) answer is meets = absurd meets
  closes_at t (AcquireMeta cell value left tried) answer is meets = absurd meets
  closes_at t (Acquire cell value left tried first expected again) answer is meets = absurd meets
  closes_at t (OwnerStatus cell value left first) answer is meets = absurd meets
  closes_at t (OwnerMeta cell value left first status) answer is meets = absurd meets
  closes_at t (DoomOwner cell value left first second status) answer is meets = absurd meets
  closes_at t (ReleaseLevel kept write behind) answer is meets = absurd meets
  closes_at t stage answer is meets = rw is meets

  closes_after : (t : Attempt) (answer : Answer) → Closes t → Closes (after t answer)
  closes_after t answer meets = closes_at t t.stage answer refl meets

  closes_did : (t : Attempt) (due : List Due) → Closes t → Closes (did_first t due)
  closes_did t [] meets = meets
  closes_did t (Run phase token ∷ dues) meets = meets
  closes_did t (Ring cell ∷ dues) meets = meets

  closes_led : (t : Attempt) (steps : List Step) → Closes t → Closes (led t steps)
  closes_led = over_steps Closes closes_after closes_did

  ended_meets : (stage : Stage) (ending : Option Ending) → stage ≡ Ended → MeetsAt Meets stage ending → Meets ending
  unfolding MeetsAt
  ended_meets stage ending is meets = rw is at meets

  -- Who closes so and is over has an ending that meets it.
  led_meets : (t u : Attempt) → Closes t → IsLed t u → u.stage ≡ Ended → Meets u.ending
  led_meets t u meets leads over = ended_meets u.stage u.ending over (subst Closes leads.reach (closes_led t leads.steps meets))

-- ---- by how its body was over

-- It has written nothing and ended as a reader, or it has committed, or its commit was rolled back.
pub data ConcludeEnds (t u : Attempt) : Type 0 where
  reader : t.now.writes ≡ [] → u.ending ≡ Some (Read t.prefix) → ConcludeEnds t u
  writer : (stamp : ℕ) → 0 < length t.now.writes → u.ending ≡ Some (Committed stamp) → ConcludeEnds t u
  undone : (cause : Cause) (prefix : ℕ) → 0 < length t.now.writes → IsOfCommit cause → u.ending ≡ Some (Rolled cause prefix) → ConcludeEnds t u

-- Who was rolled back ends so.
pub rolled_ends : (t u : Attempt) (cause : Cause) → IsLed (rolled t cause) u → u.stage ≡ Ended → u.ending ≡ Some (Rolled cause t.prefix)
rolled_ends t u cause leads over =
    let Meets = λ (ending : Option Ending). ending ≡ Some (Rolled cause t.prefix) in
    led_meets Meets (rolled t cause) u (roll_closes Meets (record t { ending = Some (Rolled cause t.prefix) }) t.now.writes refl) leads over

commit_ends : (t u : Attempt) (ending : Option Ending) → 0 < length t.now.writes → u.ending ≡ ending → EndsCommit ending → ConcludeEnds t u
unfolding EndsCommit
commit_ends t u (Some (Committed stamp)) some is of = writer stamp some is
commit_ends t u (Some (Rolled cause prefix)) some is of = undone cause prefix some of is
commit_ends t u ending some is of = absurd of

ends_by : (t u : Attempt) (writes : List Write) → t.now.writes ≡ writes → IsLed (conclude t writes) u → u.stage ≡ Ended → ConcludeEnds t u
unfolding MeetsAt
ends_by t u [] is leads over = reader is (led_meets (λ (ending : Option Ending). ending ≡ Some (Read t.prefix)) (conclude t []) u refl leads over)
ends_by t u (write ∷ writes) is leads over =
    commit_ends t u u.ending (rw is (omega arith)) refl (led_meets EndsCommit (conclude t (write ∷ writes)) u (λ ending of. of) leads over)

pub conclude_ends : (t u : Attempt) → IsLed (conclude t t.now.writes) u → u.stage ≡ Ended → ConcludeEnds t u
conclude_ends t u leads over = ends_by t u t.now.writes refl leads over

-- ---- what a commit is never rolled back with

-- a body's own word
pub word_of_commit : (cause : Cause) → IsOfCommit cause → IsWord cause → ⊥
unfolding IsOfCommit
word_of_commit (Doomed status) of word = word
word_of_commit (Stale cell version meta) of word = word
word_of_commit (ClockMoved first second) of word = word
word_of_commit (ClockEnd clock) of word = word
word_of_commit cause of word = absurd of

-- a cause that a body answers
pub body_of_commit : (cause : Cause) → IsOfCommit cause → IsOfBody cause → ⊥
unfolding IsOfCommit
body_of_commit (Doomed status) of body = body
body_of_commit (Stale cell version meta) of body = body
body_of_commit (ClockMoved first second) of body = body
body_of_commit (ClockEnd clock) of body = body
body_of_commit cause of body = absurd of

-- Neither cells nor bodies answer the clock's end.
pub answered_no_end : (cause : Cause) (clock : ℕ) → cause ≡ ClockEnd clock → IsOfCells cause ⊎ IsOfBody cause → ⊥
answered_no_end cause clock is of = ⊎_elim (λ (cells : IsOfCells cause). rw is at cells) (λ (body : IsOfBody cause). rw is at body) of
