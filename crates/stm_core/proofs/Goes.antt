-- An operation that goes on makes an access next.
use Rattle.std.proofs.Common.{◌≡◌, ℕ, false, IfSome, IsSome, Option, Some, None, [], refl, sym, ap, ◌∙◌, subst}
use Rattle.stm_core.proofs.Stands.{rests_at, stands}
use Rattle.stm_core.specs.Machine.{after_due, made, named, next_of, standing}
use Rattle.stm_core.specs.Running.{IsSound, attempt_at, base, due_in, shown, standing_at}
use Rattle.stm_core.specs.declared.next.Next.{Next}
use Rattle.stm_core.specs.declared.next.Next.TheVariants as coming
use Rattle.stm_core.specs.declared.next.Reply.{Reply}
use Rattle.stm_core.specs.declared.running.Running.{Running}
use Rattle.stm_core.specs.declared.running.State.{State}
use Rattle.stm_core.specs.declared.running.State.TheVariants as in_state
use Rattle.stm_model.specs.declared.cause.Cause.{Cause}
use Rattle.stm_model.specs.declared.ending.Ending.{Ending}
use Rattle.stm_model.specs.declared.access.Access.{Access}
use Rattle.stm_model.specs.Accesses.{Act, next_access, next_at, packed, unless_due}
use Rattle.stm_model.specs.Attempt.{Attempt, Ended, Late, Ready, Stage, Stopped}

stands_by_act : (t : Attempt) (stage : Stage) → IsSome (next_at t stage) → standing t stage ≡ made (packed (next_at t stage))
unfolding standing next_at
stands_by_act t (Ready told) acts = absurd (cc acts)
stands_by_act t (Late token) acts = absurd (cc acts)
stands_by_act t (Stopped cause) acts = absurd (cc acts)
stands_by_act t Ended acts = absurd (cc acts)
stands_by_act t _ acts = refl

from_act : (act : Option Act) (access : Option Access) (result : Next) → IsSome act → access ≡ packed act → IfSome access (λ a. result ≡ named a) → made (packed act) ≡ Some result
from_act None access result some same is = absurd (cc some)
from_act (Some act) access result some same is = ap Some (sym (subst (λ x. IfSome x (λ a. result ≡ named a)) same is))

-- Where nothing is due, an attempt that makes an access makes it next, by its name.
makes : (t : Attempt) (access : Option Access) (result : Next) → IsSome (next_at t t.stage) → t.due ≡ [] → access ≡ next_access t → IfSome access (λ a. result ≡ named a) → next_of t ≡ Some result
unfolding after_due
makes t access result acts nothing same is =
    ap (λ d. after_due d (standing t t.stage)) nothing ∙ stands_by_act t t.stage acts
    ∙ from_act (next_at t t.stage) access result acts (same ∙ ap (λ d. packed (unless_due d (next_at t t.stage))) nothing) is

-- So it does in each state, unless it rests.
pub goes : (r : Running) (access : Option Access) (result : Next) → IsSound r → rests_at r.state ≡ false → due_in r.due r.handlers.hooks ≡ [] →
    access ≡ next_access (shown r) → IfSome access (λ a. result ≡ named a) → next_of (shown r) ≡ Some result
goes r access result sound going nothing =
    let here = stands r r.state sound.holds in
    makes (shown r) access result (here.acts going) (here.same.due ∙ nothing)

-- It goes on where it neither waits nor is over.
pub goes_on : (state : State) → ((told : Option ℕ) → state ≡ in_state.Ready told → ⊥) → ((token : ℕ) → state ≡ in_state.Late token → ⊥) → ((cause : Cause) → state ≡ in_state.Stopped cause → ⊥) →
    ((hooks : ℕ) → state ≡ in_state.Undone hooks → ⊥) → ((ending : Ending) → state ≡ in_state.Ended ending → ⊥) → rests_at state ≡ false
goes_on (in_state.Ready told) ready late stopped undone ended = absurd (ready told refl)
goes_on (in_state.Late token) ready late stopped undone ended = absurd (late token refl)
goes_on (in_state.Stopped cause) ready late stopped undone ended = absurd (stopped cause refl)
goes_on (in_state.Undone hooks) ready late stopped undone ended = absurd (undone hooks refl)
goes_on (in_state.Ended ending) ready late stopped undone ended = absurd (ended ending refl)
goes_on state ready late stopped undone ended = refl

-- Where it was told something, it replies that.
pub replies : (r : Running) (told : Option ℕ) (result : Reply) → r.state ≡ in_state.Ready told → due_in r.due r.handlers.hooks ≡ [] → ((t : Attempt) → standing t (Ready told) ≡ Some (coming.Reply result)) →
    next_of (shown r) ≡ Some (coming.Reply result)
unfolding attempt_at after_due
replies r told result is nothing stands =
    subst (λ state. next_of (attempt_at (base r) state) ≡ Some (coming.Reply result)) (sym is)
    (ap (λ dues. after_due dues (standing (standing_at r (Ready told)) (Ready told))) nothing ∙ stands (standing_at r (Ready told)))

-- What is due comes before all that.
pub due_comes : (r : Running) (result : Next) → IsSound r → ((behind : Option Next) → after_due (due_in r.due r.handlers.hooks) behind ≡ Some result) → next_of (shown r) ≡ Some result
due_comes r result sound first = ap (λ dues. after_due dues (standing (shown r) (shown r).stage)) (stands r r.state sound.holds).same.due ∙ first _
