-- Attempts that nothing comes due for, and that wait to be asked again. Here t is an attempt.
use Rattle.std.proofs.Common.{◌≡◌, ◌≢◌, ℕ, Bool, true, false, if◌then◌else◌, List, [], ◌∷◌, Option, Some, Ok, Err, refl, sym, subst, ◌∙◌, ⊎_elim}
use Rattle.stm_model.specs.Accesses.{Answer}
use Rattle.stm_model.specs.After.{after}
use Rattle.stm_model.specs.Attempt.{Attempt, Due, Ended, Ready, Stage, Stopped, cause_at, cells_of}
use Rattle.stm_model.specs.HandlerRuns.{DoesDue, Finds, Step, found_unless_due, led, stepped}
use Rattle.stm_model.specs.Moves.{AwaitsAsk, AwaitsAskAt, did_first}
use Rattle.stm_model.specs.declared.access.Ask.{Ask}
use Rattle.stm_model.specs.declared.cause.Cause.{Cause}
use Rattle.txn_drive.specs.Paying.{IsLed}
use Rattle.txn_drive.specs.Standing.{Rests}
use Rattle.txn_drive.proofs.Asking.{waits_after, waits_led}
use Rattle.txn_run.specs.Flights.{Tells, told_at}

-- It waits to be asked again, and told what it made of what the body sees.
pub record IsTold (lawful : List ℕ → Type 0) (size : ℕ) (ask : Ask) (t u : Attempt) : Type 0 where
  pub waits : AwaitsAsk u
  pub tells : Tells lawful ask (told_at u.stage) (cells_of size t) (cells_of size u)

-- What each answer keeps, where nothing is due before it or after it, is kept over steps.
module _ (P : Attempt → Type 0) (answers : (t : Attempt) (answer : Answer) → t.due ≡ [] → P t → P (after t answer) × ((after t answer).due ≡ [])) where
  abbrev Holds : Attempt → Type 0
  Holds t = P t × (t.due ≡ [])

  step_holds : (t : Attempt) (step : Step) → Holds t → Holds (stepped t step)
  unfolding stepped
  step_holds t (Finds answer) holds = subst (λ (due : List Due). Holds (found_unless_due t due answer)) (sym holds.1) (answers t answer holds.1 holds.0)
  step_holds t DoesDue holds = subst (λ (due : List Due). Holds (did_first t due)) (sym holds.1) holds

  steps_hold : (t : Attempt) (steps : List Step) → Holds t → Holds (led t steps)
  steps_hold t [] holds = holds
  steps_hold t (step ∷ steps) holds = steps_hold (stepped t step) steps (step_holds t step holds)

  pub led_holds : (t u : Attempt) → IsLed t u → t.due ≡ [] → P t → P u
  led_holds t u leads nothing holds = subst P leads.reach (steps_hold t leads.steps (holds, nothing)).0

pub if_due : (b : Bool) (t u : Attempt) → t.due ≡ [] → u.due ≡ [] → (if b then t else u).due ≡ []
if_due true t u first second = first
if_due false t u first second = second

-- Who waits makes nothing of an answer.
pub stays : (P : Attempt → Type 0) (t : Attempt) (answer : Answer) → AwaitsAskAt t.stage → t.due ≡ [] → P t → P (after t answer) × ((after t answer).due ≡ [])
stays P t answer waits nothing holds = subst (λ (u : Attempt). P u × (u.due ≡ [])) (sym (waits_after t t.stage answer waits)) (holds, nothing)

-- Who rests and isn't over waits.
pub rests_waits : (u : Attempt) → u.stage ≢ Ended → Rests u → AwaitsAsk u
rests_waits u going rests = ⊎_elim (λ waits. waits) (λ over. absurd (going over.stage)) rests

-- Who waits is led nowhere.
pub waits_same : (t u : Attempt) → AwaitsAsk t → IsLed t u → u ≡ t
waits_same t u waits leads = sym leads.reach ∙ waits_led t leads.steps waits

-- Who waits told it already.
pub told_here : (lawful : List ℕ → Type 0) (size : ℕ) (ask : Ask) (t u v : Attempt) → AwaitsAsk v → Tells lawful ask (told_at v.stage) (cells_of size t) (cells_of size v) → IsLed v u
    → IsTold lawful size ask t u
told_here lawful size ask t u v waits tells leads =
    subst (λ (a : Attempt). IsTold lawful size ask t a) (sym (waits_same v u waits leads)) (record { waits = waits; tells = tells })

-- ---- where it stands

pub told_ready : (stage : Stage) (told : Option ℕ) → stage ≡ Ready told → told_at stage ≡ Ok told
unfolding told_at
told_ready stage told is = rw is refl

pub told_stopped : (stage : Stage) (cause : Cause) → stage ≡ Stopped cause → told_at stage ≡ Err cause
unfolding told_at
told_stopped stage cause is = rw is refl

pub ready_going : (stage : Stage) (told : Option ℕ) → stage ≡ Ready told → stage ≢ Ended
ready_going stage told is = rw is (λ ended. cc ended)

pub stopped_going : (stage : Stage) (cause : Cause) → stage ≡ Stopped cause → stage ≢ Ended
stopped_going stage cause is = rw is (λ ended. cc ended)

pub ready_waits : (stage : Stage) (told : Option ℕ) → stage ≡ Ready told → AwaitsAskAt stage
unfolding AwaitsAskAt
ready_waits stage told is = rw is tt

pub stopped_waits : (stage : Stage) (cause : Cause) → stage ≡ Stopped cause → AwaitsAskAt stage
unfolding AwaitsAskAt
stopped_waits stage cause is = rw is tt

-- Who was refused something stands there.
pub cause_stopped : (stage : Stage) (cause : Cause) → cause_at stage ≡ Some cause → stage ≡ Stopped cause
unfolding cause_at
cause_stopped (Stopped other) cause is = cc is
cause_stopped stage cause is = cc is
