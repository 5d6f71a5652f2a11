use Rattle.opacity.proofs.TableSteps.{step_shown}
use Rattle.opacity.proofs.words.a_step_is_an_access.Goals as goal

pub returns : goal.returns
returns g c = λ law. step_shown (g.L.Law.lawful law) (g.L.Law.may law)
