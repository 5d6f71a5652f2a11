use Rattle.opacity.proofs.Runs.{moves_safe}
use Rattle.opacity.proofs.laws.local_moves_keep_the_world_safe.Goals as goal

pub returns : goal.returns
returns g c = λ law terms w p moves. moves_safe (g.L.Law.lawful law) (g.L.Law.may law) terms moves w p
