use Rattle.trie_law.proofs.Growth.{grown_none, grown_then, new_grown, place_grown}
use Rattle.trie_law.proofs.heap_steps.a_heap_grows_in_steps.Goals as goal

pub returns-clause-none : goal.returns-clause-none
returns-clause-none c = grown_none

pub returns-clause-steps : goal.returns-clause-steps
returns-clause-steps c = grown_then

pub returns-clause-new : goal.returns-clause-new
returns-clause-new c = new_grown

pub returns-clause-in_place : goal.returns-clause-in_place
returns-clause-in_place c = λ layout own MayWrite before after block drawn filled kinds generations may no_token has.
    place_grown layout own MayWrite before after block drawn filled kinds generations may no_token has
