use Rattle.trie_law.proofs.LeafPairLemmas.{length-without, put_sets, without_sets}
use Rattle.trie_law.proofs.key_steps.a_leaf_has_what_was_put.Goals as goal

pub returns-clause-put : goal.returns-clause-put
returns-clause-put c = put_sets

pub returns-clause-without : goal.returns-clause-without
returns-clause-without c = without_sets

pub returns-clause-shorter : goal.returns-clause-shorter
returns-clause-shorter c = length-without
