use Rattle.trie_law.proofs.Made.{handed_child, handed_rest, handed_root}
use Rattle.trie_law.proofs.heap_steps.a_tree_is_handed_on.Goals as goal

pub returns-clause-root : goal.returns-clause-root
returns-clause-root c = handed_root

pub returns-clause-child : goal.returns-clause-child
returns-clause-child c = handed_child

pub returns-clause-rest : goal.returns-clause-rest
returns-clause-rest c = handed_rest
