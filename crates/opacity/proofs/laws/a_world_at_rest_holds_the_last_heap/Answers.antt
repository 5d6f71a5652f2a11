use Rattle.opacity.proofs.AtRest.{rests_free, rests_newest}
use Rattle.opacity.proofs.laws.a_world_at_rest_holds_the_last_heap.Goals as goal

pub returns-clause-newest : goal.returns-clause-newest
returns-clause-newest g c = λ law terms w cell safe rests within. rests_newest (g.L.Law.lawful law) (g.L.Law.may law) terms w safe rests cell within

pub returns-clause-free : goal.returns-clause-free
returns-clause-free g c = λ law terms w cell safe rests within. rests_free (g.L.Law.lawful law) (g.L.Law.may law) terms w safe rests cell within
