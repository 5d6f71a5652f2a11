-- The accesses of a commit, up to its decision, keep what is told.
use Rattle.std.proofs.Common.{◌≡◌, ℕ, suc, ◌<◌, nat_eq, nat_lt, Bool, true, false, ◌||◌, if◌then◌else◌, IsTrue, List, [], ◌∷◌, length, Some, refl, arith}
use Rattle.meta_word.specs.Meta.{still_has}
use Rattle.meta_word.specs.Status.{same_status}
use Rattle.meta_word.specs.declared.meta.Meta.{Meta}
use Rattle.meta_word.specs.declared.status.Phase.TheVariants.{Preparing}
use Rattle.meta_word.specs.declared.status.TxnStatus.{TxnStatus}
use Rattle.stm_model.specs.declared.cause.Cause.{Cause}
use Rattle.stm_model.specs.declared.cause.Cause.TheVariants.{ClockEnd, ClockMoved, Doomed}
use Rattle.stm_model.specs.declared.ending.Ending.TheVariants.{Committed, Rolled}
use Rattle.stm_model.specs.declared.note.Note.{Note}
use Rattle.stm_model.specs.Accesses.{Answer, Number, OfMeta, OfStatus, active}
use Rattle.stm_model.specs.After.{after_at, at, decided, mark_on, note_validated, prepared, roll_on, rolled, run_all, stale, store_on, validate_on}
use Rattle.stm_model.specs.Attempt.{Attempt, Stage, Write, CommitClock, CommitNote, Decide, Mark, Prepare, has_prepared}
use Rattle.stm_model.specs.HandlerRuns.{EndsAt}
use Rattle.stm_model.specs.Handlers.{committing, preparing}
use Rattle.ledger_model.specs.declared.job.Contents.{Contents}
use Rattle.ledger_model.specs.declared.script.Statement.{Statement}
use Rattle.ledger_model.specs.Run.{Kept}
use Rattle.ledger_model.specs.Talk.{Over}
use Rattle.ledger_model.specs.Traced.{Progress}
use Rattle.trace_laws.proofs.Told.{BeginsSo, Closes, ClosesKept, ClosesSo, IsTold, RollsBackSo, ToldAt, is_any}
use Rattle.trace_laws.proofs.Closings.{EndsAlike, EndsOn, HeardAlike, begins_alike, closes_alike, roll_alike, roll_told, store_alike, store_told}
use Rattle.trace_laws.proofs.Going.{begins_so}

some_any : (writes : List Write) → 0 < length writes → is_any writes ≡ true
some_any [] some = absurd (omega arith)
some_any (write ∷ writes) some = refl

mark_alike : (t : Attempt) (writes : List Write) → HeardAlike t (mark_on t writes)
mark_alike t [] = (refl, refl, refl)
mark_alike t (write ∷ behind) = (refl, refl, refl)

-- It has begun to prepare wherever it stands at this stage.
abbrev IsPrepared : Attempt → Stage → Type 0
IsPrepared t stage = (begun : Bool) → EndsAt begun t.ending stage → begun ≡ true

module _ (base : Contents) (block : List Statement) (g : Progress) where
  mark_told : (t : Attempt) (writes : List Write) → ClosesKept base block (mark_on t writes) g → IsTold base block (mark_on t writes) g
  unfolding ToldAt
  mark_told t [] kept = kept
  mark_told t (write ∷ behind) kept = kept

  module _ (t : Attempt) (kept : ClosesKept base block t g) where
    keeps : (u : Attempt) (stage : Stage) → HeardAlike t u → EndsOn t stage u → ClosesKept base block u g
    keeps u stage alike on =
        let begun : Bool = kept.0 || has_prepared u.phase in
        (begun, closes_alike base block g t u kept.0 begun Kept alike kept.1 (on kept.1.former kept.0 kept.1.ends).1)

    -- It is rolled back for another caller's sake.
    rolls : (cause : Cause) → ((u : Attempt) → BeginsSo base block u.notes g → RollsBackSo base block u g cause) → IsTold base block (rolled t cause) g
    unfolding ClosesSo
    rolls cause so =
        let ending : Attempt = record t { ending = Some (Rolled cause t.prefix) } in
        let last : Attempt = roll_on ending t.now.writes in
        let begins : BeginsSo base block t.notes g = begins_so base block g t.notes (Over Kept) (record t.now { runs = kept.1.former }) t.saved kept.1.comes in
        roll_told base block g ending t.now.writes (so last (begins_alike base block g t last (roll_alike ending t.now.writes).0 begins))

    -- The clock is at its limit.
    ends_clock : (clock : ℕ) (stage : Stage) → IsPrepared t stage → IsTrue (is_any t.now.writes)
        → EndsOn t stage (rolled (record t { prefix = clock }) (ClockEnd clock)) → IsTold base block (rolled (record t { prefix = clock }) (ClockEnd clock)) g
    unfolding ClosesSo RollsBackSo
    ends_clock clock stage stands some on =
        let ending : Attempt = record t { prefix = clock; ending = Some (Rolled (ClockEnd clock) clock) } in
        let last : Attempt = roll_on ending t.now.writes in
        let alike : EndsAlike ending last = roll_alike ending t.now.writes in
        let ends = on kept.1.former kept.0 kept.1.ends in
        let closes : Closes base block last true Kept g = closes_alike base block g t last kept.0 true Kept alike.0 kept.1 (rw (stands kept.0 ends.0) at ends.1) in
        roll_told base block g ending t.now.writes (closes, rw alike.0.1 some, alike.1)

    prepares : (found : TxnStatus) (won : Bool)
        → (let next : Attempt = if won then mark_on (record t { phase = Preparing; due = run_all (preparing t.now.hooks) }) t.now.writes else rolled t (Doomed found) in
        EndsOn t Prepare next → IsTold base block next g)
    unfolding RollsBackSo
    prepares found true on =
        let next : Attempt = record t { phase = Preparing; due = run_all (preparing t.now.hooks) } in
        mark_told next t.now.writes (keeps (mark_on next t.now.writes) Prepare (mark_alike next t.now.writes) on)
    prepares found false on = rolls (Doomed found) (λ u begins. (begins, refl))

    limits : (lost clock : ℕ) (stage : Stage) → IsPrepared t stage → IsTrue (is_any t.now.writes) → (at_limit : Bool)
        → (let next : Attempt = if at_limit then rolled (record t { prefix = clock }) (ClockEnd clock) else at t (Decide lost clock) in
        EndsOn t stage next → IsTold base block next g)
    unfolding ToldAt
    limits lost clock stage stands some true on = ends_clock clock stage stands some on
    limits lost clock stage stands some false on = keeps (at t (Decide lost clock)) stage (refl, refl, refl) on

    validates : (lost clock : ℕ) (stage : Stage) → IsPrepared t stage → IsTrue (is_any t.now.writes) → (notes : List Note)
        → EndsOn t stage (validate_on t lost clock notes) → IsTold base block (validate_on t lost clock notes) g
    unfolding validate_on ToldAt
    validates lost clock stage stands some [] on = limits lost clock stage stands some (nat_eq clock t.settings.clock) on
    validates lost clock stage stands some (note ∷ behind) on = keeps (at t (CommitNote lost clock note behind)) stage (refl, refl, refl) on

    validates_note : (lost clock : ℕ) (note : Note) (behind : List Note) (found : Meta) (stage : Stage) → IsPrepared t stage → IsTrue (is_any t.now.writes) → (still : Bool)
        → (let next : Attempt = if still then validate_on t lost clock behind else rolled t (stale note found) in
        EndsOn t stage next → IsTold base block next g)
    unfolding RollsBackSo
    validates_note lost clock note behind found stage stands some true on = validates lost clock stage stands some behind on
    validates_note lost clock note behind found stage stands some false on = rolls (stale note found) (λ u begins. (begins, refl))

    decides : (lost clock found : ℕ) (stage : Stage) → IsTrue (is_any t.now.writes) → (won more : Bool) → (let next : Attempt =
        if won then store_on (record t { ending = Some (Committed (suc clock)); due = run_all (committing t.now.hooks) }) t.now.writes else
        if more then at t (CommitClock (suc lost)) else rolled t (ClockMoved clock found) in
        EndsOn t stage next → IsTold base block next g)
    unfolding ToldAt ClosesSo RollsBackSo
    decides lost clock found stage some true more on =
        let ending : Attempt = record t { ending = Some (Committed (suc clock)); due = run_all (committing t.now.hooks) } in
        let next : Attempt = store_on ending t.now.writes in
        let alike : EndsAlike ending next = store_alike ending t.now.writes in
        store_told base block g ending t.now.writes (keeps next stage alike.0 on, rw alike.0.1 some)
    decides lost clock found stage some false true on = keeps (at t (CommitClock (suc lost))) stage (refl, refl, refl) on
    decides lost clock found stage some false false on = rolls (ClockMoved clock found) (λ u begins. (begins, refl))

  -- ---- each access

  module _ (t : Attempt) (kept : ClosesKept base block t g) (here : IsTold base block t g) where
    pub prepare_told : (answer : Answer) → EndsOn t Prepare (after_at t Prepare answer) → IsTold base block (after_at t Prepare answer) g
    unfolding after_at prepared
    prepare_told (OfStatus found) on = prepares t kept found (same_status found (active t.serial)) on
    prepare_told answer on = here

    pub mark_cell_told : (write : Write) (behind : List Write) (answer : Answer) → EndsOn t (Mark write behind) (after_at t (Mark write behind) answer)
        → IsTold base block (after_at t (Mark write behind) answer) g
    unfolding after_at
    mark_cell_told write behind (OfMeta found) on = mark_told t behind (keeps t kept (mark_on t behind) (Mark write behind) (mark_alike t behind) on)
    mark_cell_told write behind answer on = here

    pub commit_clock_told : (lost : ℕ) (answer : Answer) → 0 < length t.now.writes → EndsOn t (CommitClock lost) (after_at t (CommitClock lost) answer)
        → IsTold base block (after_at t (CommitClock lost) answer) g
    unfolding after_at EndsAt
    commit_clock_told lost (Number clock) some on =
        validates t kept lost clock (CommitClock lost) (λ begun is. is) (some_any t.now.writes some) t.notes on
    commit_clock_told lost answer some on = here

    pub commit_note_told : (lost clock : ℕ) (note : Note) (behind : List Note) (answer : Answer) → 0 < length t.now.writes
        → EndsOn t (CommitNote lost clock note behind) (after_at t (CommitNote lost clock note behind) answer)
        → IsTold base block (after_at t (CommitNote lost clock note behind) answer) g
    unfolding after_at note_validated EndsAt
    commit_note_told lost clock note behind (OfMeta found) some on =
        validates_note t kept lost clock note behind found (CommitNote lost clock note behind) (λ begun is. is) (some_any t.now.writes some) (still_has t.own note.version found) on
    commit_note_told lost clock note behind answer some on = here

    pub decide_told : (lost clock : ℕ) (answer : Answer) → 0 < length t.now.writes → EndsOn t (Decide lost clock) (after_at t (Decide lost clock) answer)
        → IsTold base block (after_at t (Decide lost clock) answer) g
    unfolding after_at decided
    decide_told lost clock (Number found) some on =
        decides t kept lost clock found (Decide lost clock) (some_any t.now.writes some) (nat_eq found clock) (nat_lt lost t.settings.tries) on
    decide_told lost clock answer some on = here
