-- An attempt begins, gives up what it was refused, and answers its script.
use Rattle.std.proofs.Common.{◌≡◌, ℕ, inr, false, List, [], length, Some, None, refl, sym, subst}
use Rattle.stm_model.specs.declared.access.Ask.TheVariants.{Abandon}
use Rattle.stm_model.specs.declared.cause.Cause.{Cause}
use Rattle.stm_model.specs.declared.ending.Ending.TheVariants.{Rolled}
use Rattle.stm_model.specs.declared.settings.Settings.{Settings}
use Rattle.stm_model.specs.Attempt.{Attempt, Stage, Ready, Late, Stopped, cause_at, has_prepared}
use Rattle.stm_model.specs.History.{IsLegal}
use Rattle.stm_model.specs.Moves.{AwaitsAskAt, Begins, May, MayAsk, Takes, moved}
use Rattle.stm_model.specs.Safe.{PhaseAt, SafeAttempt}
use Rattle.stm_model.specs.World.{Terms, World}
use Rattle.stm_model.proofs.AttemptLemmas.{abandon-refused}
use Rattle.std.specs.Prelude.{unwrap_or}
use Rattle.ledger_model.specs.declared.job.Contents.{Contents}
use Rattle.ledger_model.specs.declared.script.Statement.{Statement}
use Rattle.ledger_model.specs.Allowed.{IsAllowed, first_footing}
use Rattle.ledger_model.specs.Run.{End}
use Rattle.ledger_model.specs.Talk.{Over, talk}
use Rattle.ledger_model.specs.Traced.{Progress, answer_at, fresh}
use Rattle.trace_laws.proofs.Moves.{Listens}
use Rattle.trace_laws.proofs.Told.{BeginsSo, ClosesSo, GoesOnHere, IsRefusal, IsTold, ToldAt}
use Rattle.trace_laws.proofs.Accesses.{noted_words}
use Rattle.trace_laws.proofs.Closings.{roll_told}
use Rattle.trace_laws.proofs.Concluding.{refused}

-- ---- where it waits

stopped_cause : (stage : Stage) (cause : Cause) → stage ≡ Stopped cause → cause_at stage ≡ Some cause
unfolding cause_at
stopped_cause stage cause is = rw is refl

stopped_waits : (stage : Stage) (cause : Cause) → stage ≡ Stopped cause → AwaitsAskAt stage
unfolding AwaitsAskAt
stopped_waits stage cause is = rw is tt

pub may_give_up : (size limit : ℕ) (t : Attempt) (cause : Cause) → t.stage ≡ Stopped cause → t.due ≡ [] → May size limit t (Takes (Abandon cause))
unfolding May MayAsk
may_give_up size limit t cause is none = (record { stands = stopped_waits t.stage cause is; nothing_due = none }, inr (stopped_cause t.stage cause is))

active_at : (stage : Stage) (t : Attempt) → AwaitsAskAt stage → PhaseAt stage t.ending t.phase → has_prepared t.phase ≡ false
unfolding AwaitsAskAt PhaseAt
active_at (Ready answer) t waits phase = rw phase refl
active_at (Late token) t waits phase = rw phase refl
active_at (Stopped cause) t waits phase = rw phase refl
active_at _ t waits phase = absurd waits

-- where it answers
answers_at : (stage : Stage) (answer : ℕ) → answer_at stage ≡ Some answer → AwaitsAskAt stage × (cause_at stage ≡ None)
unfolding AwaitsAskAt cause_at
answers_at (Ready told) answer is = (tt, refl)
answers_at (Late token) answer is = (tt, refl)
answers_at _ answer is = cc is

pub listens : (terms : Terms) (w : World) (p : ℕ) (t : Attempt) (answer : ℕ) → IsLegal terms.opening w.history → SafeAttempt terms w p t → answer_at t.stage ≡ Some answer → t.due ≡ [] → Listens t
listens terms w p t answer legal safe is none =
    let at_rest = answers_at t.stage answer is in
    record {
      waits = record { stands = at_rest.0; nothing_due = none };
      going = at_rest.1;
      unprepared = active_at t.stage t at_rest.0 safe.phase;
      notes = noted_words terms w p t legal safe.sound;
      writes = safe.sound.entry.words;
    }

module _ (base : Contents) (block : List Statement) where
  -- ---- it begins

  pub begins : (t : Attempt) (settings : Settings) → IsAllowed (length base.refs) first_footing (talk block) → IsTold base block (moved t (Begins settings)) (fresh (talk block))
  unfolding ToldAt moved
  begins t settings allowed = (record { comes = λ heap long agrees. refl; allowed = allowed; levels = record { as_many = refl; nest = tt } }, λ answer. refl)

  -- ---- it was refused something

  stopped_so : (t : Attempt) (g : Progress) (stage : Stage) (cause : Cause) → stage ≡ Stopped cause → ToldAt base block t g stage → BeginsSo base block t.notes g × IsRefusal cause
  unfolding ToldAt
  stopped_so t g stage cause is h = subst (λ (s : Stage). ToldAt base block t g s) is h

  pub gives_up : (t : Attempt) (g : Progress) (cause : Cause) → t.stage ≡ Stopped cause → IsTold base block t g → IsTold base block (moved t (Takes (Abandon cause))) g
  unfolding ClosesSo
  gives_up t g cause is h =
      let so = stopped_so t g t.stage cause is h in
      subst (λ (next : Attempt). IsTold base block next g) (sym (abandon-refused t cause (stopped_cause t.stage cause is) cause))
      (roll_told base block g (record t { ending = Some (Rolled cause t.prefix) }) t.now.writes (refused base block t g cause t.now.writes so.1 so.0))

  -- ---- it answers its script

  answered_at : (t : Attempt) (g : Progress) (stage : Stage) (answer : ℕ) → answer_at stage ≡ Some answer → ToldAt base block t g stage → GoesOnHere base block t (g.rest answer) g
  unfolding ToldAt
  answered_at t g (Ready told) answer is h = let same : unwrap_or told 0 ≡ answer = cc is in subst (λ n. GoesOnHere base block t (g.rest n) g) same h
  answered_at t g (Late token) answer is h = let same : 0 ≡ answer = cc is in subst (λ n. GoesOnHere base block t (g.rest n) g) same h
  answered_at t g _ answer is h = cc is

  pub answered : (t : Attempt) (g : Progress) (answer : ℕ) → answer_at t.stage ≡ Some answer → IsTold base block t g → GoesOnHere base block t (g.rest answer) g
  answered t g answer is h = answered_at t g t.stage answer is h

  pub not_over : (t : Attempt) (end : End) (g : Progress) → GoesOnHere base block t (Over end) g → ⊥
  not_over t end g goes = goes.allowed
