-- The accesses of a commit that is not decided yet keep the world safe.
use Rattle.std.proofs.Common.{length, ◌≡◌, ℕ, suc, nat_eq, nat_lt, ◌<◌, ◌≤◌, ◌++◌, not, true, false, Bool, Some, None, Option, if◌then◌else◌, List, [], ◌∷◌, refl, ◌∙◌, arith, inr}
use Rattle.std.proofs.lemmas.Bool.{and_parts, eqb-true, not-true}
use Rattle.std.proofs.lemmas.Bool.Decides.{nat_tests}
use Rattle.meta_word.specs.Meta.{changing_by_another, still_has}
use Rattle.meta_word.specs.declared.status.Phase.{Phase}
use Rattle.meta_word.specs.declared.status.Phase.TheVariants.{Preparing}
use Rattle.stm_model.specs.declared.cause.Cause.TheVariants.{ClockEnd, ClockMoved, Stale}
use Rattle.stm_model.specs.declared.ending.Ending.{Ending}
use Rattle.stm_model.specs.declared.ending.Ending.TheVariants.{Committed}
use Rattle.stm_model.specs.declared.note.Note.{Note}
use Rattle.stm_model.specs.Accesses.{next_at}
use Rattle.stm_model.specs.After.{after_at, at, validate_on, note_validated, decided, rolled, run_all, store_on}
use Rattle.stm_model.specs.Attempt.{Attempt, CommitNote, Decide, CommitClock, Stage, Write, held_at, flies_at, has_prepared, stamp_of, unmarked_at, unstored_at}
use Rattle.stm_model.specs.Handlers.{committing}
use Rattle.stm_model.specs.Evidence.{Evidence}
use Rattle.stm_model.specs.History.{IsCurrent}
use Rattle.stm_model.specs.Owes.{Owes}
use Rattle.stm_model.specs.Safe.{NamesNote, EndingAt, EndsSo, HasBegun, PhaseAt, Safe, SafeAttempt, SafeStage, WasSampled, stamp_on, Sound}
use Rattle.stm_model.specs.World.{IsCaller, Terms, World, attempt_of, cells_in, words_after, clock_after, entry_of, found, seen_after, since_at, with_view}
use Rattle.stm_model.proofs.EvidenceLemmas.{is_stale}
use Rattle.opacity.proofs.Decides.{decided_safe}
use Rattle.opacity.proofs.Ends.{MayRoll, rolled_fits}
use Rattle.opacity.proofs.Fits.{Fits, ending_is, phase_is, safe_local, safe_seen, stage_is}
use Rattle.opacity.proofs.ReadSteps.{knows_attempt, knows_clock}
use Rattle.opacity.proofs.Samples.{not_written, sampled_all, sampled_more, sampled_start, still_current}
use Rattle.opacity.proofs.Shown.{all_at, names_checked}
use Rattle.opacity.proofs.Stands.{IsPlain, follows_at, placed, sound_at}
use Rattle.opacity.proofs.Stepping.{stepped}

-- Where it is to be decided, an attempt holds its cells, all of them marked.
abbrev pub Weighs : Stage → Type 0
Weighs (CommitClock lost) = Unit {0}
Weighs (CommitNote lost clock note behind) = Unit {0}
Weighs (Decide lost clock) = Unit {0}
Weighs stage = ⊥

pub record WeighFacts (stage : Stage) : Type 0 where
  pub held : (writes : List Write) → held_at writes stage ≡ writes
  pub unmarked : (phase : Phase) (writes : List Write) → unmarked_at phase writes stage ≡ []
  pub unstored : unstored_at stage ≡ []
  pub flies : flies_at stage ≡ true
  pub begun : HasBegun stage
  pub phase_from : (ending : Option Ending) (phase : Phase) → PhaseAt stage ending phase → phase ≡ Preparing
  pub phase_to : (ending : Option Ending) (phase : Phase) → phase ≡ Preparing → PhaseAt stage ending phase
  pub ending_from : (ending : Option Ending) → EndingAt stage ending → ending ≡ None
  pub ending_to : (ending : Option Ending) → ending ≡ None → EndingAt stage ending

weigh_facts : (stage : Stage) → Weighs stage → WeighFacts stage
unfolding held_at unmarked_at unstored_at flies_at HasBegun PhaseAt EndingAt
weigh_facts (CommitClock lost) weighs = record { held = λ writes. refl; unmarked = λ phase writes. refl; unstored = refl; flies = refl; begun = tt; phase_from = λ ending phase is. is; phase_to = λ ending phase is. is; ending_from = λ ending is. is; ending_to = λ ending is. is }
weigh_facts (CommitNote lost clock note behind) weighs = record { held = λ writes. refl; unmarked = λ phase writes. refl; unstored = refl; flies = refl; begun = tt; phase_from = λ ending phase is. is; phase_to = λ ending phase is. is; ending_from = λ ending is. is; ending_to = λ ending is. is }
weigh_facts (Decide lost clock) weighs = record { held = λ writes. refl; unmarked = λ phase writes. refl; unstored = refl; flies = refl; begun = tt; phase_from = λ ending phase is. is; phase_to = λ ending phase is. is; ending_from = λ ending is. is; ending_to = λ ending is. is }
weigh_facts stage weighs = absurd weighs

weighs_plain : (stage : Stage) → Weighs stage → IsPlain stage
weighs_plain (CommitClock lost) weighs = tt
weighs_plain (CommitNote lost clock note behind) weighs = tt
weighs_plain (Decide lost clock) weighs = tt
weighs_plain stage weighs = absurd weighs

module _ (terms : Terms) (w : World) (p : ℕ) (t : Attempt) (here : Stage) (weighs : Weighs here) (phase : PhaseAt here t.ending t.phase) (ending : EndingAt here t.ending) (sound : Sound terms w p t) where
  to_weigh : (there : Stage) → Weighs there → SafeStage terms w t there → Fits terms w p (at t here) (at t there)
  unfolding EndsSo
  to_weigh there then_weighs stage =
      let first = weigh_facts here weighs in
      let second = weigh_facts there then_weighs in
      let prepares : t.phase ≡ Preparing = first.phase_from t.ending t.phase phase in
      let none : t.ending ≡ None = first.ending_from t.ending ending in
      record {
        alike = λ cell. record {
          held = rw (first.held, second.held) refl;
          marked = λ held. rw (first.held, second.held, first.unmarked, second.unmarked) refl;
          unstored = λ held. rw (first.unstored, second.unstored) refl;
          stamp = λ held. refl;
        };
        follows = follows_at t _ here refl refl refl refl first.flies first.begun second.begun;
        safe = placed terms w p t sound (rw none tt) there (weighs_plain there then_weighs) (second.phase_to t.ending t.phase prepares) (second.ending_to t.ending none) stage;
      }

  may_roll : MayRoll t here
  may_roll =
      let facts = weigh_facts here weighs in
      let prepares : t.phase ≡ Preparing = facts.phase_from t.ending t.phase phase in
      record {
        held = facts.held t.now.writes;
        unmarked = facts.unmarked t.phase t.now.writes ∙ marked_all t.phase t.now.writes prepares;
        unstored = facts.unstored;
        flies = facts.flies;
        begun = facts.begun;
        phase = inr prepares;
        ending = facts.ending_from t.ending ending;
      }
    where
      marked_all : (phase : Phase) (writes : List Write) → phase ≡ Preparing → [] ≡ (if has_prepared phase then [] else writes)
      marked_all phase writes is = rw is refl

  below_limit : (clock limit own : ℕ) → own ≡ limit → clock ≤ limit → nat_eq clock own ≡ false → clock < limit
  below_limit clock limit own is low test = grind (arith, nat_tests)

  checks : (lost clock : ℕ) (behind : List Note) → 0 < length t.now.writes → clock ≤ terms.limit → WasSampled w t clock behind → Fits terms w p (at t here) (validate_on t lost clock behind)
  unfolding validate_on SafeStage Evidence NamesNote
  checks lost clock [] some low sampled = go (nat_eq clock t.settings.clock) refl
    where
      go : (b : Bool) → nat_eq clock t.settings.clock ≡ b → Fits terms w p (at t here) (if b then rolled (record t { prefix = clock }) (ClockEnd clock) else at t (Decide lost clock))
      go true end = rolled_fits terms w p t (record t { prefix = clock }) here (ClockEnd clock) (eqb-true clock t.settings.clock end, tt) may_roll (sound_at terms w p t clock sound sampled.high (sampled_all w t clock terms.opening sampled sound.notes)) refl refl sampled.low refl
      go false room = to_weigh (Decide lost clock) tt (some, sampled, below_limit clock terms.limit t.settings.clock sound.limit low room)
  checks lost clock (note ∷ behind) some low sampled = to_weigh (CommitNote lost clock note behind) tt (some, sampled)

module _ (lawful : List ℕ → Type 0) (may : List ℕ → List ℕ → Type 0) (terms : Terms) (w : World) (p : ℕ) (safe : Safe lawful may terms w) (caller : IsCaller terms p) where
  abbrev t : Attempt
  t = attempt_of w p

  own : SafeAttempt terms w p t
  own = safe.attempts p caller

  sound : Sound terms w p t
  sound = own.sound

  pub keeps_commit_clock : (lost : ℕ) → t.stage ≡ CommitClock lost → Safe lawful may terms (stepped w p (CommitClock lost))
  unfolding next_at after_at words_after found seen_after since_at clock_after SafeStage
  keeps_commit_clock lost is =
      let stage = CommitClock lost in
      safe_seen lawful may terms w p safe caller stage is _
      (checks terms w p t stage tt (phase_is terms w p stage own is) (ending_is terms w p stage own is) sound lost w.clock t.notes (stage_is terms w p stage own is) safe.limit
      (sampled_start w t w.clock (omega (arith, own.sound.prefix, safe.clock)) (omega (arith, safe.clock))))
      (knows_clock lawful may terms w p safe caller _ refl refl refl)

  no_stamp : (stage : Stage) → Weighs stage → t.stage ≡ stage → stamp_of t ≡ 0
  no_stamp stage weighs is = let none = (weigh_facts stage weighs).ending_from t.ending (ending_is terms w p stage own is) in rw none refl

  pub keeps_commit_note : (lost clock : ℕ) (note : Note) (behind : List Note) → t.stage ≡ CommitNote lost clock note behind → Safe lawful may terms (stepped w p (CommitNote lost clock note behind))
  unfolding next_at after_at words_after found seen_after since_at clock_after SafeStage note_validated Evidence NamesNote
  keeps_commit_note lost clock note behind is =
      safe_seen lawful may terms w p safe caller stage is _ (go (still_has t.own note.version (w.meta note.addr.0)) refl) (knows_attempt lawful may terms w p safe caller _ refl refl refl)
    where
      stage : Stage
      stage = CommitNote lost clock note behind

      at_stage : (0 < length t.now.writes) × WasSampled w t clock (note ∷ behind)
      at_stage = stage_is terms w p stage own is

      sampled : WasSampled w t clock (note ∷ behind)
      sampled = at_stage.1

      go : (b : Bool) → still_has t.own note.version (w.meta note.addr.0) ≡ b
          → Fits terms w p (at t stage) (if b then validate_on t lost clock behind else rolled t (Stale note.addr note.version (w.meta note.addr.0)))
      go true same =
          let tests = and_parts (nat_eq (w.meta note.addr.0).version note.version) (not (changing_by_another t.own (w.meta note.addr.0))) same in
          let within : note.addr.0 < cells_in terms = all_at (λ each. each.addr.0 < cells_in terms) sampled.checked behind t.notes note sampled.notes own.sound.noted_cells in
          let current : IsCurrent terms.opening w.history t.prefix note = all_at (IsCurrent terms.opening w.history t.prefix) sampled.checked behind t.notes note sampled.notes own.sound.notes in
          let quiet : changing_by_another p (w.meta note.addr.0) ≡ false = rw own.sound.own at (not-true (changing_by_another t.own (w.meta note.addr.0)) tests.1) in
          let none : stamp_on w note.addr.0 ≡ 0 = not_written lawful may terms w safe p note.addr.0 within (no_stamp stage tt is) quiet in
          let still = still_current lawful may terms w safe t.prefix clock note within none (eqb-true _ _ tests.0) current sampled.low sampled.high in
          checks terms w p t stage tt (phase_is terms w p stage own is) (ending_is terms w p stage own is) sound lost clock behind at_stage.0 (omega (arith, sampled.high, safe.clock, safe.limit)) (sampled_more w t clock note behind sampled still)
      go false moved = rolled_fits terms w p t t stage (Stale note.addr note.version (w.meta note.addr.0)) (
        is_stale t.own note.version (w.meta note.addr.0) moved,
        names_checked sampled.checked behind t.notes note (w.meta note.addr.0) sampled.notes,
      ) (may_roll terms w p t stage tt (phase_is terms w p stage own is) (ending_is terms w p stage own is) sound) sound refl refl (omega arith) refl

  -- ---- the exchange of the clock

  lost_fits : (lost clock : ℕ) → t.stage ≡ Decide lost clock → nat_eq w.clock clock ≡ false → Fits terms w p (at t (Decide lost clock)) (if nat_lt lost t.settings.tries then at t (CommitClock (suc lost)) else rolled t (ClockMoved clock w.clock))
  unfolding SafeStage Evidence NamesNote
  lost_fits lost clock is other = go (nat_lt lost t.settings.tries)
    where
      stage : Stage
      stage = Decide lost clock

      at_stage : (0 < length t.now.writes) × WasSampled w t clock [] × (clock < terms.limit)
      at_stage = stage_is terms w p stage own is

      moved_clock : (found clock : ℕ) → nat_eq found clock ≡ false → clock ≤ found → clock < found
      moved_clock found clock test low = grind (arith, nat_tests)

      go : (b : Bool) → Fits terms w p (at t stage) (if b then at t (CommitClock (suc lost)) else rolled t (ClockMoved clock w.clock))
      go true = to_weigh terms w p t stage tt (phase_is terms w p stage own is) (ending_is terms w p stage own is) sound (CommitClock (suc lost)) tt at_stage.0
      go false = rolled_fits terms w p t t stage (ClockMoved clock w.clock) (moved_clock w.clock clock other (omega (arith, at_stage.1.high, safe.clock)), tt) (may_roll terms w p t stage tt (phase_is terms w p stage own is) (ending_is terms w p stage own is) sound) sound refl refl (omega arith) refl

  -- Its writes meet what is owed for what it has read.
  pub keeps_decide : (lost clock : ℕ) → t.stage ≡ Decide lost clock → (w.clock ≡ clock → Owes lawful may (cells_in terms) t.notes t.now.writes) → Safe lawful may terms (stepped w p (Decide lost clock))
  unfolding next_at after_at words_after found seen_after since_at clock_after decided
  keeps_decide lost clock is owes = go (nat_eq w.clock clock) refl
    where
      go : (b : Bool) → nat_eq w.clock clock ≡ b
          → Safe lawful may terms (with_view (if b then record w { clock = suc clock; history = w.history ++ entry_of t ∷ [] } else w) p (record (w.view p) {
            attempt = if b then store_on (record t { ending = Some (Committed (suc clock)); due = run_all (committing t.now.hooks) }) t.now.writes
                else if nat_lt lost t.settings.tries then at t (CommitClock (suc lost)) else rolled t (ClockMoved clock w.clock);
            seen = if b then suc clock else (w.view p).seen;
          }))
      go true won = decided_safe lawful may terms w p safe caller lost clock (run_all (committing t.now.hooks)) is (eqb-true w.clock clock won) (owes (eqb-true w.clock clock won))
      go false lost_it = safe_local lawful may terms w p safe caller (Decide lost clock) is _ (lost_fits lost clock is lost_it)
