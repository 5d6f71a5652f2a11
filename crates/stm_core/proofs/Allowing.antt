-- What an attempt does next keeps what it promises.
use Rattle.std.proofs.Common.{◌≡◌, ◌<◌, ℕ, IfSome, IsSome, List, [], ◌∷◌, length, Option, Some, None, refl, sym, ap, ◌∙◌, subst, arith}
use Rattle.stm_core.proofs.Asking.{late_there}
use Rattle.stm_core.proofs.Shown.{at_rest, next_is, shown_alike}
use Rattle.stm_core.proofs.Stands.{IsBelow, stands}
use Rattle.stm_core.specs.Machine.{ClockFits, IsAtRest, MayTake, Promises, Waits, after_due, made, named, next_of, over, standing}
use Rattle.stm_core.specs.Running.{IsSound, shown}
use Rattle.stm_core.specs.declared.next.Next.{Next}
use Rattle.stm_core.specs.declared.next.Next.TheVariants as coming
use Rattle.stm_core.specs.declared.next.Reply.TheVariants as reply
use Rattle.stm_core.specs.declared.running.Running.{Running}
use Rattle.stm_core.specs.declared.running.State.TheVariants as in_state
use Rattle.stm_model.specs.declared.ending.Ending.{Ending}
use Rattle.stm_model.specs.Accesses.{Act, LoadClock, ExchangeClock, access_of, next, next_at, packed}
use Rattle.stm_model.specs.Attempt.{Attempt, Due, Ended, Late, Ready, Ring, Run, Stage, Stopped}
use Rattle.stm_model.specs.Moves.{AwaitsAskAt}

-- what holds of the one
carried : (P : Next → Type 0) {here result : Next} → Some here ≡ Some result → P here → P result
carried P is holds = subst (λ (o : Option Next). IfSome o P) is holds

may_take : (t : Attempt) (act : Act) (answer : ℕ) → next t ≡ Some act → ClockFits t (Some act) answer → MayTake t answer
may_take t act answer is fits = record {
  going = subst (λ (a : Option Act). IsSome a) (sym is) refl;
  clock = subst (λ a. ClockFits t a answer) (sym is) fits;
}

-- ---- where it makes an access

act_promises : (t : Attempt) (act : Act) → next t ≡ Some act → IsBelow (next t) t.settings.clock → Promises t (named (access_of act))
unfolding access_of ClockFits
act_promises t (ExchangeClock old) is below = record { next = is; below = below old is; takes = λ answer fits. may_take t (ExchangeClock old) answer is fits }
act_promises t LoadClock is below = record { act = LoadClock; next = is; made = refl; undecided = λ old new same. cc; takes = λ answer fits. may_take t LoadClock answer is (fits tt) }
act_promises t act is below = record { act = act; next = is; made = refl; undecided = λ old new same. cc; takes = λ answer fits. may_take t act answer is tt }

acts_promise : (t : Attempt) (act : Option Act) (result : Next) → next t ≡ act → IsBelow (next t) t.settings.clock → made (packed act) ≡ Some result → Promises t result
acts_promise t None result acts below is = absurd (cc is)
acts_promise t (Some act) result acts below is = carried (Promises t) is (act_promises t act acts below)

-- ---- where it makes none

waits : (t : Attempt) (stage : Stage) → t.due ≡ [] → t.stage ≡ stage → AwaitsAskAt stage → next_at t stage ≡ None → Waits t
waits t stage nothing here stands none = record {
  awaits = record { stands = subst AwaitsAskAt (sym here) stands; nothing_due = nothing };
  makes_none = next_is t nothing ∙ ap (next_at t) here ∙ none;
}

-- at its end it is at rest
Rests : Attempt → Next → Type 0
Rests t result = (ending : Ending) → result ≡ coming.Reply (reply.Ended ending) → IsAtRest t ending

over_promises : (t : Attempt) (ending : Option Ending) (result : Next) → ((other : Ending) → result ≡ coming.Reply (reply.Ended other) → IsAtRest t other) → over ending ≡ Some result → Promises t result
over_promises t None result rests is = absurd (cc is)
over_promises t (Some ending) result rests is =
    let same : result ≡ coming.Reply (reply.Ended ending) = cc in
    subst (Promises t) (sym same) (rests ending same)

-- where a before-commit body has its turn, one has had it
abbrev IsLateThere : Attempt → Type 0
IsLateThere t = (token : ℕ) → t.stage ≡ Late token → 0 < t.turn

stage_promises : (t : Attempt) (stage : Stage) (result : Next) → t.due ≡ [] → t.stage ≡ stage → IsBelow (next t) t.settings.clock →
    ((ending : Ending) → result ≡ coming.Reply (reply.Ended ending) → IsAtRest t ending) → IsLateThere t → standing t stage ≡ Some result → Promises t result
unfolding standing next_at AwaitsAskAt
stage_promises t (Ready None) result nothing here below rests late is = carried (Promises t) is (waits t (Ready None) nothing here tt refl)
stage_promises t (Ready (Some value)) result nothing here below rests late is = carried (Promises t) is (waits t (Ready (Some value)) nothing here tt refl)
stage_promises t (Late token) result nothing here below rests late is = carried (Promises t) is (record { waits = waits t (Late token) nothing here tt refl; stage = here; turn = late token here })
stage_promises t (Stopped cause) result nothing here below rests late is = carried (Promises t) is (record { waits = waits t (Stopped cause) nothing here tt refl; stage = here })
stage_promises t Ended result nothing here below rests late is = over_promises t t.ending result rests is
stage_promises t stage result nothing here below rests late is = acts_promise t _ result (next_is t nothing ∙ ap (next_at t) here) below is

-- What is due comes before all that.
due_promises : (t : Attempt) (dues : List Due) (result : Next) → t.due ≡ dues → IsBelow (next t) t.settings.clock →
    (t.due ≡ [] → (ending : Ending) → result ≡ coming.Reply (reply.Ended ending) → IsAtRest t ending) → IsLateThere t → after_due dues (standing t t.stage) ≡ Some result → Promises t result
unfolding after_due
due_promises t [] result none below rests late is = stage_promises t t.stage result none refl below (rests none) late is
due_promises t (Run phase token ∷ dues) result some below rests late is = carried (Promises t) is (record { behind = dues; first = some; some = omega (arith, ap length some) })
due_promises t (Ring cell ∷ dues) result some below rests late is = carried (Promises t) is (record { behind = dues; first = some; some = omega (arith, ap length some) })

-- nothing that it makes, where something is due, is the exchange of the clock
below_next : (t : Attempt) (dues : List Due) → t.due ≡ dues → IsBelow (next_at t t.stage) t.settings.clock → IsBelow (next t) t.settings.clock
below_next t [] none below = λ old is. below old (sym (next_is t none) ∙ is)
below_next t (due ∷ dues) some below = λ old is. cc

pub promises : (r : Running) (result : Next) → IsSound r → next_of (shown r) ≡ Some result →
    ((ending : Ending) → result ≡ coming.Reply (reply.Ended ending) → r.state ≡ in_state.Ended ending) → Promises (shown r) result
promises r result sound is ends =
    let t = shown r in
    let alike = shown_alike r sound in
    let below = subst (λ (limit : ℕ). IsBelow (next_at t t.stage) limit) (sym (ap (λ settings. settings.clock) alike.settings)) (stands r r.state sound.holds).below in
    due_promises t t.due result refl (below_next t t.due refl below) (λ nothing ending same. at_rest r ending (ends ending same) nothing) (late_there r sound) is
