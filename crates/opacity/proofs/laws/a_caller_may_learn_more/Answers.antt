use Rattle.opacity.proofs.Events.{learn_safe}
use Rattle.opacity.proofs.laws.a_caller_may_learn_more.Goals as goal

pub returns : goal.returns
returns g c = λ law terms w p n low more there safe.
    learn_safe (g.L.Law.lawful law) (g.L.Law.may law) terms w p safe low n more there
