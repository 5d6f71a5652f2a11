-- What an attempt tells by what it does next.
use Rattle.std.proofs.Common.{◌≡◌, true, false, List, [], ◌∷◌, ◌++◌, length, Option, Some, None, IsSome, IsFalse, ap, sym, ◌∙◌, refl, subst, append-nil, arith, ◌<◌}
use Rattle.stm_core.specs.declared.next.Next.{Next}
use Rattle.stm_core.specs.declared.next.Next.TheVariants.{Ring, Run}
use Rattle.stm_core.specs.Machine.{after_due, next_of, over, standing}
use Rattle.stm_model.specs.Accesses.{access_of, next, next_at, unless_due}
use Rattle.stm_model.specs.Attempt.{Attempt, Due, Ended, Late, Ready, Ring as RingOf, Run as RunOf, Stage, Stopped, cause_at}
use Rattle.stm_model.specs.Handlers.{Handlers}
use Rattle.stm_model.specs.Moves.{Does, did_first, moved}
use Rattle.stm_model.specs.declared.cause.Cause.TheVariants.{Memory}
use Rattle.stm_model.specs.declared.ending.Ending.{Ending}
use Rattle.ledger_model.specs.Traced.{answer_at}
use Rattle.world_run.specs.Simulation.{replies}
use Rattle.host_trace.specs.Tellings.{tells_due, tells_memory, told_answer, told_ending, told_refusal, told_run}

over_tells : (ending : Option Ending) → told_answer (over ending) ≡ None
over_tells None = refl
over_tells (Some ending) = refl

answer_standing : (t : Attempt) (stage : Stage) → told_answer (standing t stage) ≡ answer_at stage
unfolding standing next_at access_of
answer_standing t (Ready None) = refl
answer_standing t (Ready (Some value)) = refl
answer_standing t Ended = over_tells t.ending
answer_standing t stage = refl

-- ---- where nothing is due

undue : (t : Attempt) (next : Option Next) → t.due ≡ [] → after_due t.due next ≡ next
unfolding after_due
undue t next none = rw none refl

pub next_undue : (t : Attempt) → t.due ≡ [] → next_of t ≡ standing t t.stage
next_undue t none = undue t (standing t t.stage) none

pub answer_is : (t : Attempt) → t.due ≡ [] → told_answer (next_of t) ≡ answer_at t.stage
answer_is t none = ap told_answer (undue t (standing t t.stage) none) ∙ answer_standing t t.stage

over_refuses : (ending : Option Ending) → told_refusal (over ending) ≡ None
over_refuses None = refl
over_refuses (Some ending) = refl

refusal_standing : (t : Attempt) (stage : Stage) → told_refusal (standing t stage) ≡ cause_at stage
unfolding standing next_at access_of cause_at
refusal_standing t (Ready None) = refl
refusal_standing t (Ready (Some value)) = refl
refusal_standing t Ended = over_refuses t.ending
refusal_standing t stage = refl

pub refusal_is : (t : Attempt) → t.due ≡ [] → told_refusal (next_of t) ≡ cause_at t.stage
refusal_is t none = ap told_refusal (undue t (standing t t.stage) none) ∙ refusal_standing t t.stage

-- ---- who was refused, out of memory

pub memory_told : (t : Attempt) → t.due ≡ [] → t.stage ≡ Stopped Memory → tells_memory (next_of t) ≡ true
unfolding standing
memory_told t none is = ap tells_memory (undue t (standing t t.stage) none) ∙ rw is refl

-- ---- what is due

over_due : (ending : Option Ending) → tells_due (over ending) ≡ false
over_due None = refl
over_due (Some ending) = refl

stands : (t : Attempt) (stage : Stage) → tells_due (standing t stage) ≡ false
unfolding standing next_at access_of
stands t (Ready None) = refl
stands t (Ready (Some value)) = refl
stands t Ended = over_due t.ending
stands t stage = refl

-- It tells whether something is due.
pub due_none : (t : Attempt) → tells_due (next_of t) ≡ false → t.due ≡ []
unfolding after_due
due_none t = go t.due
  where
    go : (dues : List Due) → tells_due (after_due dues (standing t t.stage)) ≡ false → dues ≡ []
    go [] told = refl
    go (RunOf phase token ∷ dues) told = cc
    go (RingOf cell ∷ dues) told = cc

pub due_some : (t : Attempt) → tells_due (next_of t) ≡ true → 0 < length t.due
unfolding after_due
due_some t = go t.due
  where
    go : (dues : List Due) → tells_due (after_due dues (standing t t.stage)) ≡ true → 0 < length dues
    go [] told = let none = stands t t.stage in let never : false ≡ true = sym none ∙ told in cc
    go (due ∷ dues) told = omega arith

-- A handler that is run is the one that was told.
over_runs : (ending : Option Ending) → told_run (over ending) ≡ []
over_runs None = refl
over_runs (Some ending) = refl

runs_standing : (t : Attempt) (stage : Stage) → told_run (standing t stage) ≡ []
unfolding standing next_at access_of
runs_standing t (Ready None) = refl
runs_standing t (Ready (Some value)) = refl
runs_standing t Ended = over_runs t.ending
runs_standing t stage = refl

pub due_runs : (t : Attempt) → (moved t Does).now.runs ≡ t.now.runs ++ told_run (next_of t)
unfolding moved after_due
due_runs t = go t.due
  where
    go : (dues : List Due) → (did_first t dues).now.runs ≡ t.now.runs ++ told_run (after_due dues (standing t t.stage))
    go [] = sym (append-nil t.now.runs) ∙ ap (λ (runs : Handlers). t.now.runs ++ runs) (sym (runs_standing t t.stage))
    go (RunOf phase token ∷ dues) = refl
    go (RingOf cell ∷ dues) = sym (append-nil t.now.runs)

pub run_none : (next : Option Next) → tells_due next ≡ false → told_run next ≡ []
run_none (Some (Run phase token)) told = cc
run_none next told = refl

pub due_goes : (next : Option Next) → tells_due next ≡ true → IsFalse (replies next)
due_goes (Some (Run phase token)) told = refl
due_goes (Some (Ring cell)) told = refl
due_goes next told = cc

-- What is due first is done, and all else but its kind stays.
pub did_stays : (t : Attempt) → ((moved t Does).stage ≡ t.stage) × ((moved t Does).now.laters ≡ t.now.laters) × ((moved t Does).saved ≡ t.saved) × ((moved t Does).turn ≡ t.turn)
unfolding moved
did_stays t = go t.due
  where
    go : (dues : List Due) → ((did_first t dues).stage ≡ t.stage) × ((did_first t dues).now.laters ≡ t.now.laters) × ((did_first t dues).saved ≡ t.saved) × ((did_first t dues).turn ≡ t.turn)
    go [] = (refl, refl, refl, refl)
    go (RunOf phase token ∷ dues) = (refl, refl, refl, refl)
    go (RingOf cell ∷ dues) = (refl, refl, refl, refl)

-- ---- who is over

pub over_told : (t : Attempt) → t.due ≡ [] → t.stage ≡ Ended → IsSome (next_of t) → (ending : Ending) × ((t.ending ≡ Some ending) × (told_ending (next_of t) ≡ Some ending))
unfolding standing
over_told t none is some = go t.ending refl (subst (λ (next : Option Next). IsSome next) here some)
  where
    here : next_of t ≡ over t.ending
    here = undue t (standing t t.stage) none ∙ rw is refl

    go : (ending : Option Ending) → t.ending ≡ ending → IsSome (over t.ending) → (ending : Ending) × ((t.ending ≡ Some ending) × (told_ending (next_of t) ≡ Some ending))
    go None same some = let none : IsSome (over None) = rw same at some in cc
    go (Some ending) same some = (ending, (same, ap told_ending here ∙ ap (λ (o : Option Ending). told_ending (over o)) same))

ending_standing : (t : Attempt) (stage : Stage) (ending : Ending) → told_ending (standing t stage) ≡ Some ending → stage ≡ Ended
unfolding standing next_at access_of
ending_standing t (Ready None) ending is = cc
ending_standing t (Ready (Some value)) ending is = cc
ending_standing t Ended ending is = refl
ending_standing t stage ending is = cc

pub ended_told : (t : Attempt) (ending : Ending) → t.due ≡ [] → told_ending (next_of t) ≡ Some ending → t.stage ≡ Ended
ended_told t ending none is = ending_standing t t.stage ending (sym (ap told_ending (undue t (standing t t.stage) none)) ∙ is)

-- Who answers nothing, was refused nothing and isn't over makes an access.
moves_on : (t : Attempt) (stage : Stage) → answer_at stage ≡ None → cause_at stage ≡ None → (stage ≡ Ended → ⊥) → IsSome (next_at t stage)
unfolding next_at cause_at
moves_on t (Ready told) quiet calm going = cc
moves_on t (Late token) quiet calm going = cc
moves_on t (Stopped cause) quiet calm going = cc
moves_on t Ended quiet calm going = absurd (going refl)
moves_on t stage quiet calm going = refl

pub makes : (t : Attempt) → t.due ≡ [] → answer_at t.stage ≡ None → cause_at t.stage ≡ None → (t.stage ≡ Ended → ⊥) → IsSome (next t)
makes t none quiet calm going = subst (λ (dues : List Due). IsSome (unless_due dues (next_at t t.stage))) (sym none) (moves_on t t.stage quiet calm going)

-- Who makes an access doesn't reply, and nothing is due.
pub makes_due : (t : Attempt) → IsSome (next t) → t.due ≡ []
makes_due t = go t.due
  where
    go : (dues : List Due) → IsSome (unless_due dues (next_at t t.stage)) → dues ≡ []
    go [] some = refl
    go (due ∷ dues) some = cc

replies_standing : (t : Attempt) (stage : Stage) → IsSome (next_at t stage) → IsFalse (replies (standing t stage))
unfolding standing next_at access_of
replies_standing t (Ready told) some = cc
replies_standing t (Late token) some = cc
replies_standing t (Stopped cause) some = cc
replies_standing t Ended some = cc
replies_standing t stage some = refl

pub makes_goes : (t : Attempt) → IsSome (next t) → IsFalse (replies (next_of t))
makes_goes t some =
    let none = makes_due t some in
    let here : IsSome (next_at t t.stage) = subst (λ (dues : List Due). IsSome (unless_due dues (next_at t t.stage))) none some in
    subst (λ (each : Option Next). IsFalse (replies each)) (sym (undue t (standing t t.stage) none)) (replies_standing t t.stage here)
