use Rattle.opacity.proofs.Openings.{opened_safe}
use Rattle.opacity.proofs.laws.a_world_opens_safe.Goals as goal

pub returns : goal.returns
returns g c = λ law terms settings fits limit lawful. opened_safe terms settings (g.L.Law.lawful law) (g.L.Law.may law) fits limit lawful
