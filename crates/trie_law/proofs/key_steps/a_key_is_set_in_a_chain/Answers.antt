use Rattle.trie_law.proofs.Chains.{leaf_adds, leaf_goes, leaf_sets}
use Rattle.trie_law.proofs.key_steps.a_key_is_set_in_a_chain.Goals as goal

pub returns-clause-written : goal.returns-clause-written
returns-clause-written c = leaf_sets

pub returns-clause-added : goal.returns-clause-added
returns-clause-added c = leaf_adds

pub returns-clause-taken_out : goal.returns-clause-taken_out
returns-clause-taken_out c = leaf_goes
