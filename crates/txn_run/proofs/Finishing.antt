-- What becomes of an attempt whose body is over, or whose before-commit body is.
use Rattle.std.proofs.Common.{◌≡◌, ℕ, suc, ◌⊎◌, drop, List, [], ◌∷◌, Some, None, refl, sym, subst, ◌∙◌, ⊎_elim, inl, inr}
use Rattle.stm_core.specs.Machine.{IsRefused}
use Rattle.stm_model.specs.After.{at, rolled}
use Rattle.stm_model.specs.Attempt.{Attempt, Late, Ready, Stage, Stopped, cause_at}
use Rattle.stm_model.specs.HandlerRuns.{Step, led}
use Rattle.stm_model.specs.Moves.{AwaitsAsk, AwaitsAskAt, EndsLate, MayRunOut, Takes, asked_at, asked_going, asked_stopped, conclude, moved, turn_to}
use Rattle.stm_model.specs.declared.access.Ask.TheVariants.{Abandon, Finish}
use Rattle.stm_model.specs.declared.cause.Cause.{Cause}
use Rattle.txn_drive.specs.Going.{IsAsked}
use Rattle.txn_drive.specs.Paying.{IsLed}
use Rattle.txn_drive.specs.Standing.{IsOver, Rests}
use Rattle.txn_drive.proofs.Asking.{waits_led}
use Rattle.txn_drive.proofs.Owing.{IsClosing, conclude_firm, late_finishes, rolled_firm}

-- A body that is over ends so: a before-commit body has its turn, or the attempt is concluded, or it is rolled back with what it was refused with.
pub data FinishEnds (t u : Attempt) : Type 0 where
  late : (token : ℕ) (tokens : List ℕ) → cause_at t.stage ≡ None → drop t.turn t.now.laters ≡ token ∷ tokens → u ≡ at (record t { turn = suc t.turn }) (Late token) → FinishEnds t u
  concluded : cause_at t.stage ≡ None → drop t.turn t.now.laters ≡ [] → IsLed (conclude t t.now.writes) u → IsOver u → FinishEnds t u
  rolled_back : (cause : Cause) → cause_at t.stage ≡ Some cause → IsLed (rolled t cause) u → IsOver u → FinishEnds t u

-- It is rolled back with the cause that it was refused with, or else with this one.
pub record AbandonEnds (cause : Cause) (t u : Attempt) : Type 0 where
  pub last : Cause
  pub is : (cause_at t.stage ≡ Some last) ⊎ ((cause_at t.stage ≡ None) × (last ≡ cause))
  pub led : IsLed (rolled t last) u
  pub over : IsOver u

closing_waits : (stage : Stage) → IsClosing stage → AwaitsAskAt stage → ⊥
unfolding IsClosing AwaitsAskAt
closing_waits (Ready told) closing waits = closing
closing_waits (Late token) closing waits = closing
closing_waits (Stopped cause) closing waits = closing
closing_waits stage closing waits = absurd waits

-- Who closes and rests is over.
pub closing_over : (u : Attempt) → IsClosing u.stage → Rests u → IsOver u
closing_over u closing rests = ⊎_elim (λ (waits : AwaitsAsk u). absurd (closing_waits u.stage closing waits.stands)) (λ over. over) rests

module _ (t u : Attempt) (due : t.due ≡ []) (rests : Rests u) where
  concludes : (steps : List Step) → led (conclude t t.now.writes) steps ≡ u → IsOver u
  concludes steps reach = closing_over u (subst (λ (a : Attempt). IsClosing a.stage) reach (conclude_firm t steps).stands) rests

  rolls : (cause : Cause) (steps : List Step) → led (rolled t cause) steps ≡ u → IsOver u
  rolls cause steps reach = closing_over u (subst (λ (a : Attempt). IsClosing a.stage) reach (rolled_firm t cause steps).stands) rests

  turns : (tokens : List ℕ) → cause_at t.stage ≡ None → drop t.turn t.now.laters ≡ tokens → (steps : List Step) → led (turn_to t tokens) steps ≡ u → FinishEnds t u
  unfolding AwaitsAskAt
  turns [] going is steps reach = concluded going is (record { steps = steps; reach = reach }) (concludes steps reach)
  turns (token ∷ tokens) going is steps reach =
      late token tokens going is (sym reach ∙ waits_led (turn_to t (token ∷ tokens)) steps (record { stands = tt; nothing_due = due }))

  finishes_at : (stage : Stage) → t.stage ≡ stage → AwaitsAskAt stage → (steps : List Step) → led (asked_at t stage Finish) steps ≡ u → FinishEnds t u
  unfolding AwaitsAskAt asked_at asked_going asked_stopped cause_at
  finishes_at (Ready told) is waits steps reach = turns (drop t.turn t.now.laters) (rw is refl) refl steps reach
  finishes_at (Late token) is waits steps reach = turns (drop t.turn t.now.laters) (rw is refl) refl steps reach
  finishes_at (Stopped cause) is waits steps reach = rolled_back cause (rw is refl) (record { steps = steps; reach = reach }) (rolls cause steps reach)
  finishes_at stage is waits steps reach = absurd waits

  abandons_at : (stage : Stage) (cause : Cause) → t.stage ≡ stage → AwaitsAskAt stage → (steps : List Step) → led (asked_at t stage (Abandon cause)) steps ≡ u → AbandonEnds cause t u
  unfolding AwaitsAskAt asked_at asked_going asked_stopped cause_at
  abandons_at (Ready told) cause is waits steps reach =
      record { last = cause; is = inr (rw is refl, refl); led = record { steps = steps; reach = reach }; over = rolls cause steps reach }
  abandons_at (Late token) cause is waits steps reach =
      record { last = cause; is = inr (rw is refl, refl); led = record { steps = steps; reach = reach }; over = rolls cause steps reach }
  abandons_at (Stopped other) cause is waits steps reach =
      record { last = other; is = inl (rw is refl); led = record { steps = steps; reach = reach }; over = rolls other steps reach }
  abandons_at stage cause is waits steps reach = absurd waits

pub finish_led : (t u : Attempt) → AwaitsAsk t → IsLed (moved t (Takes Finish)) u → Rests u → FinishEnds t u
unfolding moved
finish_led t u waits led rests = finishes_at t u waits.nothing_due rests t.stage refl waits.stands led.steps led.reach

pub late_led : (t u : Attempt) → AwaitsAsk t → IsLed (moved t EndsLate) u → Rests u → FinishEnds t u
late_led t u waits led rests = finish_led t u waits (subst (λ (a : Attempt). IsLed a u) (late_finishes t waits.stands) led) rests

pub finish_ends : (t u : Attempt) → AwaitsAsk t → IsAsked t Finish u → Rests u → FinishEnds t u
unfolding MayRunOut
finish_ends t u waits asked rests = ⊎_elim (λ led. finish_led t u waits led rests) (λ (refused : IsRefused t Finish u). absurd refused.wants) asked

pub abandon_ends : (cause : Cause) (t u : Attempt) → AwaitsAsk t → IsAsked t (Abandon cause) u → Rests u → AbandonEnds cause t u
unfolding moved MayRunOut
abandon_ends cause t u waits asked rests = ⊎_elim
    (λ (led : IsLed (moved t (Takes (Abandon cause))) u). abandons_at t u waits.nothing_due rests t.stage cause refl waits.stands led.steps led.reach)
    (λ (refused : IsRefused t (Abandon cause) u). absurd refused.wants) asked
