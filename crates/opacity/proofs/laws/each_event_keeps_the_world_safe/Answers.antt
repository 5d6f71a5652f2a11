use Rattle.opacity.proofs.Steps.{event_safe}
use Rattle.opacity.proofs.laws.each_event_keeps_the_world_safe.Goals as goal

pub returns : goal.returns
returns g c = λ law terms w event able meets safe. event_safe (g.L.Law.lawful law) (g.L.Law.may law) terms w event able meets safe
