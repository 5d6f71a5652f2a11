use Rattle.opacity.proofs.KnownEvents.{event_known, known_opaque, learned_known, moved_known, opened_known}
use Rattle.opacity.proofs.laws.what_is_known_was_seen.Goals as goal

pub returns-clause-opens : goal.returns-clause-opens
returns-clause-opens g c = opened_known

pub returns-clause-event : goal.returns-clause-event
returns-clause-event g c = λ law terms w event p able safe known. event_known (g.L.Law.lawful law) (g.L.Law.may law) terms w safe event p able known

pub returns-clause-moves : goal.returns-clause-moves
returns-clause-moves g c = λ w p q moves own known. moved_known w p moves q own known

pub returns-clause-learns : goal.returns-clause-learns
returns-clause-learns g c = λ w p q n more own known. learned_known w p n q more own known

pub returns-clause-opaque : goal.returns-clause-opaque
returns-clause-opaque g c = λ law terms w p safe caller known begun kept. known_opaque (g.L.Law.lawful law) (g.L.Law.may law) terms w safe p caller known begun kept
