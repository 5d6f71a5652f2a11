use Rattle.trie_law.proofs.LeafPairLemmas.{middle_set}
use Rattle.trie_law.proofs.key_steps.a_key_is_set_in_the_middle.Goals as goal

pub returns : goal.returns
returns c = middle_set
