-- What follows a worker's access up to the end of its attempt: what is due is done, and the script goes on as far as it can without an access. Here s is the trace and p the worker.
use Rattle.std.proofs.Common.{◌≡◌, ℕ, suc, ◌≤◌, List, [], ◌∷◌, length, Option, Some, None, refl, sym, ap, ◌∙◌, subst, arith, inl, inr}
use Rattle.std.specs.Option.{option_map_or}
use Rattle.stm_model.specs.After.{roll_on}
use Rattle.stm_model.specs.Attempt.{Attempt, Due, Ended, Ring, Run, Stage, Stopped, Write, cause_at, stamp_of}
use Rattle.stm_model.specs.Moves.{AwaitsAskAt, Does, EndsLate, May, Move, Takes, asked_at, asked_stopped, did_first, moved}
use Rattle.stm_model.specs.Safe.{IsKept, Safe, Sound}
use Rattle.stm_model.specs.World.{IsCaller, MayHappen, MeetsOwed, Moves, Steps, Terms, World, attempt_of, cells_in, happened}
use Rattle.stm_model.specs.declared.access.Ask.{Ask}
use Rattle.stm_model.specs.declared.access.Ask.TheVariants.{Abandon, Enter, Keep, Undo}
use Rattle.stm_model.specs.declared.cause.Cause.{Cause}
use Rattle.stm_model.specs.declared.ending.Ending.{Ending}
use Rattle.stm_model.specs.declared.ending.Ending.TheVariants.{Rolled}
use Rattle.stm_model.specs.declared.settings.Settings.{Settings}
use Rattle.opacity.proofs.Places.{replaced_here}
use Rattle.opacity.proofs.Steps.{event_safe}
use Rattle.ledger_model.specs.declared.job.Contents.{Contents}
use Rattle.ledger_model.specs.declared.job.Job.{Job}
use Rattle.ledger_model.specs.declared.script.Statement.{Statement}
use Rattle.ledger_model.specs.Contents.{opening_contents}
use Rattle.ledger_model.specs.Replays.{block_of, settled_by}
use Rattle.ledger_model.specs.Talk.{Talk, Over, Says, Asks, Ends}
use Rattle.ledger_model.specs.Traced.{Progress, Trace, all_done, answer_in, asked, attempt_in, due_done, gives_up, goes_on, happens, requested, returned, said, speaks, terms_of_job, with_progress}
use Rattle.trace_laws.proofs.Moves.{Listens}
use Rattle.trace_laws.proofs.Told.{ClosesSo, GoesOnHere, IsTold, ToldAt, book_then}
use Rattle.trace_laws.proofs.Accesses.{after_access}
use Rattle.trace_laws.proofs.Answering.{answered, gives_up as gives_up_told, listens, may_give_up, not_over}
use Rattle.trace_laws.proofs.Dues.{does}
use Rattle.trace_laws.proofs.Happening.{asked_unstamped, committed_reads, did_prefix, winner_reads, move_affects, move_attempt, step_affects, step_goes}
use Rattle.trace_laws.proofs.Keeping.{IsNumbered, after_is, did_is, late_over_is, took_is}
use Rattle.trace_laws.proofs.Midway.{IsOwnEvent, Midway, comes_on}
use Rattle.trace_laws.proofs.Midway as midway
use Rattle.trace_laws.proofs.Requests.{says}
use Rattle.trace_laws.proofs.Taking.{ends_late, may_end_late, may_take, takes}

-- ---- an attempt alone

-- What is told of was not let go.
closed_kept : (base : Contents) (block : List Statement) (t : Attempt) (g : Progress) (ending : Option Ending) → ClosesSo base block t g ending → IsKept Ended ending
unfolding ClosesSo IsKept
closed_kept base block t g None closes = closes
closed_kept base block t g (Some ending) closes = tt

pub told_kept : (base : Contents) (block : List Statement) (t : Attempt) (g : Progress) (stage : Stage) → ToldAt base block t g stage → IsKept stage t.ending
unfolding ToldAt IsKept
told_kept base block t g Ended told = closed_kept base block t g t.ending told
told_kept base block t g stage told = tt

asked_kept : (stage : Stage) (ending : Option Ending) → AwaitsAskAt stage → IsKept stage ending
unfolding AwaitsAskAt IsKept
asked_kept Ended ending waits = absurd waits
asked_kept stage ending waits = tt

stopped_waits : (stage : Stage) (cause : Cause) → stage ≡ Stopped cause → AwaitsAskAt stage
unfolding AwaitsAskAt
stopped_waits stage cause is = rw is tt

first_done : (t : Attempt) (due : Due) (dues : List Due) → (did_first t (due ∷ dues)).due ≡ dues
first_done t (Run phase token) dues = refl
first_done t (Ring cell) dues = refl

did_due : (t : Attempt) (due : Due) (dues : List Due) → t.due ≡ due ∷ dues → (moved t Does).due ≡ dues
unfolding moved
did_due t due dues is = ap (λ (all : List Due). (did_first t all).due) is ∙ first_done t due dues

roll_due : (t : Attempt) (writes : List Write) → (roll_on t writes).due ≡ t.due
roll_due t [] = refl
roll_due t (write ∷ behind) = refl

given_up_due : (t : Attempt) (cause : Cause) → t.stage ≡ Stopped cause → (moved t (Takes (Abandon cause))).due ≡ t.due
unfolding moved asked_at asked_stopped
given_up_due t cause is =
    ap (λ (stage : Stage). (asked_at t stage (Abandon cause)).due) is ∙ roll_due (record t { ending = Some (Rolled cause t.prefix) }) t.now.writes

asked_rest : (ask : Ask) (rest : ℕ → Talk) (g : Progress) → (asked ask rest g).rest ≡ rest
asked_rest Enter rest g = refl
asked_rest Keep rest g = refl
asked_rest Undo rest g = refl
asked_rest ask rest g = refl

did_told : (base : Contents) (block : List Statement) (t : Attempt) (g : Progress) → IsTold base block t g → IsTold base block (moved t Does) g
unfolding moved
did_told base block t g told = does base block t g told

done_progress : (p : ℕ) (dues : List Due) (s : Trace) → (all_done p dues s).progress ≡ s.progress
done_progress p [] s = refl
done_progress p (due ∷ dues) s = done_progress p dues (happens (Moves p Does) s)

-- ---- what is told of the worker's attempt

-- the worker's first script that isn't settled
abbrev pub script_in : Job → ℕ → Trace → List Statement
script_in job p s = block_of job p (suc (settled_by s.rows p))

abbrev pub Tells : Job → ℕ → Trace → Type 0
Tells job p s = IsTold (opening_contents job) (script_in job p s) (attempt_in s p) (s.progress p)

-- in the middle of a turn, with an attempt in flight or over
pub record Runs (lawful : List ℕ → Type 0) (may : List ℕ → List ℕ → Type 0) (job : Job) (settings : Settings) (p : ℕ) (s : Trace) : Type 0 where
  pub midway : Midway lawful may job settings p s
  pub told : Tells job p s

-- the same with nothing due
pub record Pauses (lawful : List ℕ → Type 0) (may : List ℕ → List ℕ → Type 0) (job : Job) (settings : Settings) (p : ℕ) (s : Trace) : Type 0 where
  pub midway : Midway lawful may job settings p s
  pub told : Tells job p s
  pub nothing_due : (attempt_in s p).due ≡ []

-- the script goes on with this talk
pub record Speaks (lawful : List ℕ → Type 0) (may : List ℕ → List ℕ → Type 0) (job : Job) (settings : Settings) (p : ℕ) (this : Talk) (s : Trace) : Type 0 where
  pub midway : Midway lawful may job settings p s
  pub listens : Listens (attempt_in s p)
  pub goes : GoesOnHere (opening_contents job) (script_in job p s) (attempt_in s p) this (s.progress p)

module _ (lawful : List ℕ → Type 0) (may : List ℕ → List ℕ → Type 0) (all_lawful : (heap : List ℕ) → lawful heap) (all_may : (heap next : List ℕ) → may heap next)
    (job : Job) (settings : Settings) (p : ℕ) (caller : IsCaller (terms_of_job job settings) p) (worker : p ≤ length job.workers) where
  abbrev terms : Terms
  terms = terms_of_job job settings

  abbrev base : Contents
  base = opening_contents job

  abbrev Running : Trace → Type 0
  Running s = Runs lawful may job settings p s

  abbrev Paused : Trace → Type 0
  Paused s = Pauses lawful may job settings p s

  abbrev Speaking : Talk → Trace → Type 0
  Speaking this s = Speaks lawful may job settings p this s

  -- ---- an access

  owes_nothing : (w : World) → MeetsOwed lawful may terms w (Steps p)
  unfolding MeetsOwed
  owes_nothing w = λ wins heap possible. (all_lawful _, all_may _ _)

  module _ (s : Trace) (old : Running s) where
    abbrev w : World
    w = s.world

    abbrev v : World
    v = happened w (Steps p)

    may_step : MayHappen terms w (Steps p)
    unfolding MayHappen
    may_step = caller

    safe_then : Safe lawful may terms v
    safe_then = event_safe lawful may terms w (Steps p) may_step (owes_nothing w) old.midway.around.safe

    told_then : IsTold base (script_in job p s) (attempt_of v p) (s.progress p)
    told_then = elim (step_goes lawful may terms w p old.midway.around.safe caller) [
      | inl same ↦ rw same old.told
      | inr on ↦
          let sound = subst (λ (t : Attempt). Sound terms v p t) on.2 (safe_then.attempts p caller).sound in
          rw on.2 (after_access base (script_in job p s) terms w v p (attempt_of w p) (s.progress p) on.0 on.1 (old.midway.around.safe.attempts p caller) safe_then.legal sound old.told)
    ]

    same_then : IsNumbered (attempt_of w p).serial (attempt_of w p).settings (attempt_of v p)
    same_then = elim (step_goes lawful may terms w p old.midway.around.safe caller) [ inl same ↦ rw same (refl, refl) | inr on ↦ rw on.2 (after_is (attempt_of w p) on.0) ]

    pub steps_on : Running (happens (Steps p) s)
    steps_on = record {
      midway = midway.goes_on p caller worker s (Steps p)
          (record {
            able = may_step;
            meets = owes_nothing w;
            affects = step_affects lawful may terms w p old.midway.around.safe caller;
            same = same_then;
            was_kept = told_kept base (script_in job p s) (attempt_of w p) (s.progress p) (attempt_of w p).stage old.told;
            kept = told_kept base (script_in job p s) (attempt_of v p) (s.progress p) (attempt_of v p).stage told_then;
            committed = committed_reads lawful may terms w p old.midway.around.safe caller;
            commits = winner_reads lawful may terms w p old.midway.around.safe caller;
          })
          old.midway;
      told = told_then;
    }

  -- ---- a local move

  module _ (this : Move) (s : Trace) (old : Midway lawful may job settings p s) (able : May (cells_in terms) terms.limit (attempt_in s p) this)
      (same : IsNumbered (attempt_in s p).serial (attempt_in s p).settings (moved (attempt_in s p) this)) (was_kept : IsKept (attempt_in s p).stage (attempt_in s p).ending)
      (committed : (n : ℕ) → stamp_of (attempt_in s p) ≡ suc n → (moved (attempt_in s p) this).prefix ≡ (attempt_in s p).prefix) (told : IsTold base (script_in job p s) (moved (attempt_in s p) this) (s.progress p)) where
    told_moved : IsTold base (script_in job p s) (attempt_of (happened s.world (Moves p this)) p) (s.progress p)
    told_moved = subst (λ (t : Attempt). IsTold base (script_in job p s) t (s.progress p)) (sym (move_attempt s.world p this)) told

    own_move : IsOwnEvent lawful may terms s.world p (Moves p this)
    unfolding MayHappen MeetsOwed happened
    own_move = record {
      able = (caller, able);
      meets = tt;
      affects = move_affects s.world p (cells_in terms) terms.limit this able;
      same = subst (λ (t : Attempt). IsNumbered (attempt_in s p).serial (attempt_in s p).settings t) (sym (move_attempt s.world p this)) same;
      was_kept = was_kept;
      kept = told_kept base (script_in job p s) _ (s.progress p) _ told_moved;
      committed = λ n is. ap (λ (t : Attempt). t.prefix) (move_attempt s.world p this) ∙ committed n is;
      commits = λ more. absurd (omega (arith, more));
    }

    pub moves_on : Running (happens (Moves p this) s)
    moves_on = record { midway = midway.goes_on p caller worker s (Moves p this) own_move old; told = told_moved }

  -- ---- what is due

  may_do : (t : Attempt) (due : Due) (dues : List Due) → t.due ≡ due ∷ dues → May (cells_in terms) terms.limit t Does
  unfolding May
  may_do t due dues is = rw is (omega arith)

  pub all_done_on : (dues : List Due) (s : Trace) → (attempt_in s p).due ≡ dues → Running s → Paused (all_done p dues s)
  all_done_on [] s none old = record { midway = old.midway; told = old.told; nothing_due = none }
  all_done_on (due ∷ dues) s is old =
      let t = attempt_in s p in
      let next = moves_on Does s old.midway (may_do t due dues is) (did_is t) (told_kept base (script_in job p s) t (s.progress p) t.stage old.told) (λ n is. did_prefix t) (did_told base (script_in job p s) t (s.progress p) old.told) in
      all_done_on dues (happens (Moves p Does) s) (ap (λ (u : Attempt). u.due) (move_attempt s.world p Does) ∙ did_due t due dues is) next

  pub due_done_on : (s : Trace) → Running s → Paused (due_done p s)
  due_done_on s old = all_done_on (attempt_in s p).due s refl old

  -- ---- requests

  -- who is asked has committed nothing
  unstamped : (s : Trace) → Midway lawful may job settings p s → AwaitsAskAt (attempt_in s p).stage → {A : Type 0} → (n : ℕ) → stamp_of (attempt_in s p) ≡ suc n → A
  unstamped s old waits n is = absurd (asked_unstamped (attempt_in s p).stage (attempt_in s p).ending n waits (old.around.safe.attempts p caller).ending is)

  module _ (ask : Ask) (rest : ℕ → Talk) (s : Trace) (old : Speaking (Asks ask rest) s) where
    abbrev come : Trace
    come = with_progress p (asked ask rest (s.progress p)) s

    requested_on : Paused (requested p ask rest s)
    requested_on =
        let t = attempt_in s p in
        let g = s.progress p in
        let told = subst (λ (now : Progress). IsTold base (script_in job p s) (moved t (Takes ask)) now) (sym (replaced_here s.progress p (asked ask rest g)))
        (takes base (script_in job p s) t old.listens g rest ask old.goes) in
        due_done_on (happens (Moves p (Takes ask)) come)
        (moves_on (Takes ask) come (comes_on p (asked ask rest g) s old.midway) (may_take base (script_in job p s) t old.listens terms.limit ask rest g old.goes) (took_is t ask)
        (asked_kept t.stage t.ending old.listens.waits.stands) (unstamped s old.midway old.listens.waits.stands) told)

    requested_rest : ((requested p ask rest s).progress p).rest ≡ rest
    requested_rest =
        ap (λ (progress : ℕ → Progress). (progress p).rest) (done_progress p (attempt_in (happens (Moves p (Takes ask)) come) p).due (happens (Moves p (Takes ask)) come))
        ∙ ap (λ (now : Progress). now.rest) (replaced_here s.progress p (asked ask rest (s.progress p))) ∙ asked_rest ask rest (s.progress p)

  module _ (rest : Talk) (s : Trace) (old : Speaking (Ends rest) s) where
    abbrev then : Progress
    then = record (s.progress p) { rest = λ answer. rest }

    returned_on : Paused (returned p rest s)
    returned_on =
        let t = attempt_in s p in
        let g = s.progress p in
        let told = subst (λ (now : Progress). IsTold base (script_in job p s) (moved t EndsLate) now) (sym (replaced_here s.progress p then))
        (ends_late base (script_in job p s) t old.listens rest g old.goes) in
        due_done_on (happens (Moves p EndsLate) (with_progress p then s))
        (moves_on EndsLate (with_progress p then s) (comes_on p then s old.midway) (may_end_late base (script_in job p s) t old.listens terms.limit rest g old.goes) (late_over_is t)
        (asked_kept t.stage t.ending old.listens.waits.stands) (unstamped s old.midway old.listens.waits.stands) told)

    returned_rest : ((returned p rest s).progress p).rest ≡ (λ answer. rest)
    returned_rest =
        ap (λ (progress : ℕ → Progress). (progress p).rest)
        (done_progress p (attempt_in (happens (Moves p EndsLate) (with_progress p then s)) p).due (happens (Moves p EndsLate) (with_progress p then s)))
        ∙ ap (λ (now : Progress). now.rest) (replaced_here s.progress p then)

  -- ---- talks

  -- the script goes on with the answer, where there is one
  answers : (rest : ℕ → Talk) (s : Trace) → Paused s → (s.progress p).rest ≡ rest → ((answer : ℕ) → Speaking (rest answer) s → Paused (speaks p (rest answer) s))
      → Paused (option_map_or (λ answer. speaks p (rest answer) s) (answer_in s p) s)
  answers rest s old same next = go (answer_in s p) refl
    where
      speaking : (answer : ℕ) → answer_in s p ≡ Some answer → Speaking (rest answer) s
      speaking answer is = record {
        midway = old.midway;
        listens = listens terms s.world p (attempt_in s p) answer old.midway.around.safe.legal (old.midway.around.safe.attempts p caller) is old.nothing_due;
        goes = subst (λ (each : ℕ → Talk). GoesOnHere base (script_in job p s) (attempt_in s p) (each answer) (s.progress p)) same
            (answered base (script_in job p s) (attempt_in s p) (s.progress p) answer is old.told);
      }

      go : (answer : Option ℕ) → answer_in s p ≡ answer → Paused (option_map_or (λ answer. speaks p (rest answer) s) answer s)
      go None none = old
      go (Some answer) is = next answer (speaking answer is)

  pub speaks_on : (this : Talk) (s : Trace) → Speaking this s → Paused (speaks p this s)
  speaks_on (Over end) s old = absurd (not_over base (script_in job p s) (attempt_in s p) end (s.progress p) old.goes)
  speaks_on (Says number rest) s old =
      speaks_on rest (with_progress p (said number (s.progress p)) s) (record {
        midway = comes_on p (said number (s.progress p)) s old.midway;
        listens = old.listens;
        goes = subst (λ (now : Progress). GoesOnHere base (script_in job p s) (attempt_in s p) rest now) (sym (replaced_here s.progress p (said number (s.progress p))))
            (says base (script_in job p s) (attempt_in s p) (book_then (attempt_in s p)) (attempt_in s p).saved (s.progress p) number rest old.goes);
      })
  speaks_on (Asks ask rest) s old =
      answers rest (requested p ask rest s) (requested_on ask rest s old) (requested_rest ask rest s old) (λ answer speaking. speaks_on (rest answer) (requested p ask rest s) speaking)
  speaks_on (Ends rest) s old =
      answers (λ answer. rest) (returned p rest s) (returned_on rest s old) (returned_rest rest s old) (λ answer speaking. speaks_on rest (returned p rest s) speaking)

  pub goes_on_on : (s : Trace) → Paused s → Paused (goes_on p s)
  goes_on_on s old = answers (s.progress p).rest s old refl (λ answer speaking. speaks_on ((s.progress p).rest answer) s speaking)

  -- ---- who was refused something

  pub gives_up_on : (s : Trace) → Paused s → Paused (gives_up p s)
  unfolding cause_at
  gives_up_on s old = go (attempt_in s p).stage refl
    where
      go : (stage : Stage) → (attempt_in s p).stage ≡ stage → Paused (option_map_or (λ cause. happens (Moves p (Takes (Abandon cause))) s) (cause_at stage) s)
      go (Stopped cause) is =
          let t = attempt_in s p in
          let next = moves_on (Takes (Abandon cause)) s old.midway (may_give_up (cells_in terms) terms.limit t cause is old.nothing_due) (took_is t (Abandon cause))
          (told_kept base (script_in job p s) t (s.progress p) t.stage old.told) (unstamped s old.midway (stopped_waits t.stage cause is)) (gives_up_told base (script_in job p s) t (s.progress p) cause is old.told) in
          record {
            midway = next.midway;
            told = next.told;
            nothing_due = ap (λ (u : Attempt). u.due) (move_attempt s.world p (Takes (Abandon cause))) ∙ given_up_due t cause is ∙ old.nothing_due;
          }
      go stage is = old

  -- an access, and what follows it up to the end of the attempt
  pub acts_on : (s : Trace) → Running s → Paused (gives_up p (goes_on p (due_done p (happens (Steps p) s))))
  acts_on s old = gives_up_on _ (goes_on_on _ (due_done_on _ (steps_on s old)))
