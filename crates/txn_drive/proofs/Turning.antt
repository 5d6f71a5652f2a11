-- Steps leave an attempt its turn.
use Rattle.std.proofs.Common.{◌≡◌, List, [], ◌∷◌, refl, sym, ap, ◌∙◌}
use Rattle.stm_model.specs.Accesses.{Answer}
use Rattle.stm_model.specs.Attempt.{Attempt, Due}
use Rattle.stm_model.specs.HandlerRuns.{DoesDue, Finds, Step, found_unless_due, led, stepped}
use Rattle.txn_drive.proofs.Keeping.{keeps_after, rest_did}
use Rattle.txn_drive.specs.Paying.{IsLed}

turn_found : (t : Attempt) (due : List Due) (answer : Answer) → (found_unless_due t due answer).turn ≡ t.turn
turn_found t [] answer = (keeps_after t answer).turn
turn_found t (due ∷ dues) answer = refl

turn_stepped : (t : Attempt) (step : Step) → (stepped t step).turn ≡ t.turn
unfolding stepped
turn_stepped t (Finds answer) = turn_found t t.due answer
turn_stepped t DoesDue = (rest_did t t.due).turn

turn_steps : (t : Attempt) (steps : List Step) → (led t steps).turn ≡ t.turn
turn_steps t [] = refl
turn_steps t (step ∷ steps) = turn_steps (stepped t step) steps ∙ turn_stepped t step

pub turn_led : (t u : Attempt) → IsLed t u → u.turn ≡ t.turn
turn_led t u led = ap (λ (a : Attempt). a.turn) (sym led.reach) ∙ turn_steps t led.steps
