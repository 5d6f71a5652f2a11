use Rattle.opacity.proofs.Effects.{event_dooms}
use Rattle.opacity.proofs.laws.who_dooms_has_seen_the_owner.Goals as goal

pub returns : goal.returns
returns g c = λ law terms w event q able safe before after. event_dooms (g.L.Law.lawful law) (g.L.Law.may law) terms w event q able safe before after
