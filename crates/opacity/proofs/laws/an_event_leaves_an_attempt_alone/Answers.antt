use Rattle.stm_model.specs.World.{cells_in}
use Rattle.opacity.proofs.LoneRuns.{begins_alone, event_alone, learned_alone, leaves_one, moved_alone, opened_alone}
use Rattle.opacity.proofs.laws.an_event_leaves_an_attempt_alone.Goals as goal

pub returns-clause-opens : goal.returns-clause-opens
returns-clause-opens g c = opened_alone

pub returns-clause-begins : goal.returns-clause-begins
returns-clause-begins g c = λ law terms w p caller. begins_alone (g.L.Law.lawful law) (g.L.Law.may law) terms p caller w

pub returns-clause-event : goal.returns-clause-event
returns-clause-event g c = λ law terms w p event caller safe able leaves alone. event_alone (g.L.Law.lawful law) (g.L.Law.may law) terms w p safe caller alone event leaves able

pub returns-clause-moves : goal.returns-clause-moves
returns-clause-moves g c = λ terms w p moves. moved_alone w p (cells_in terms) terms.limit moves

pub returns-clause-learns : goal.returns-clause-learns
returns-clause-learns g c = learned_alone

pub returns-clause-only : goal.returns-clause-only
returns-clause-only g c = leaves_one
