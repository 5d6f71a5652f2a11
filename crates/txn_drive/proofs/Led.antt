-- Attempts that are led on by steps.
use Rattle.std.proofs.Common.{◌≡◌, ℕ, List, [], ◌∷◌, ◌++◌, Option, Some, None, refl, sym, ap, ◌∙◌}
use Rattle.stm_model.specs.Accesses.{Act, Answer, answer_of, next, next_access, next_at, packed, unless_due}
use Rattle.stm_model.specs.After.{after_found, after_word}
use Rattle.stm_model.specs.Attempt.{Attempt, Due}
use Rattle.stm_model.specs.HandlerRuns.{DoesDue, Finds, Step, found_unless_due, led, stepped}
use Rattle.stm_model.specs.Moves.{Does, moved}
use Rattle.stm_model.specs.declared.access.Access.{Access}
use Rattle.txn_drive.specs.Paying.{IsLed}

led_append : (t : Attempt) (steps more : List Step) → led t (steps ++ more) ≡ led (led t steps) more
led_append t [] more = refl
led_append t (step ∷ steps) more = led_append (stepped t step) steps more

pub led_self : (t : Attempt) → IsLed t t
led_self t = record { steps = []; reach = refl }

pub led_on : (t u v : Attempt) → IsLed t u → IsLed u v → IsLed t v
led_on t u v one two = record { steps = one.steps ++ two.steps; reach = led_append t one.steps two.steps ∙ (ap (λ (a : Attempt). led a two.steps) one.reach ∙ two.reach) }

pub led_done : (t u : Attempt) → u ≡ moved t Does → IsLed t u
unfolding stepped moved
led_done t u is = record { steps = DoesDue ∷ []; reach = sym is }

-- ---- by an access

-- the act whose access comes next
pub record IsNextAct (t : Attempt) (access : Access) : Type 0 where
  pub act : Act
  pub is : next t ≡ Some act
  pub made : packed (Some act) ≡ Some access

act_of : (t : Attempt) (access : Access) (this : Option Act) → next t ≡ this → packed this ≡ Some access → IsNextAct t access
act_of t access None is made = absurd (cc made)
act_of t access (Some act) is made = record { act = act; is = is; made = made }

pub next_act : (t : Attempt) (access : Access) → next_access t ≡ Some access → IsNextAct t access
next_act t access is = act_of t access (next t) refl is

none_due : (due : List Due) (this : Option Act) (act : Act) → unless_due due this ≡ Some act → due ≡ []
none_due [] this act is = refl
none_due (due ∷ dues) this act is = absurd (cc is)

-- Where an access comes next, nothing is due.
pub nothing_due : (t : Attempt) (access : Access) → next_access t ≡ Some access → t.due ≡ []
nothing_due t access is = none_due t.due (next_at t t.stage) (next_act t access is).act (next_act t access is).is

pub led_word : (t u : Attempt) (access : Access) (found : ℕ) → next_access t ≡ Some access → u ≡ after_word t found → IsLed t u
unfolding stepped
led_word t u access found comes is =
    let this = next_act t access comes in
    let answer : Answer = answer_of this.act found in
    record {
      steps = Finds answer ∷ [];
      reach = ap (λ (due : List Due). found_unless_due t due answer) (nothing_due t access comes)
          ∙ (sym (ap (λ (act : Option Act). after_found t act found) this.is) ∙ sym is);
    }
