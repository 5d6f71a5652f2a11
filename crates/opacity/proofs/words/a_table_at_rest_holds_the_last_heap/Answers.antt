use Rattle.opacity.proofs.AtRest.{rests_words}
use Rattle.opacity.proofs.words.a_table_at_rest_holds_the_last_heap.Goals as goal

pub returns : goal.returns
returns g c = λ law. rests_words (g.L.Law.lawful law) (g.L.Law.may law)
