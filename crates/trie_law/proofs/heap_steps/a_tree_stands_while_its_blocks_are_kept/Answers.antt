use Rattle.trie_law.proofs.Trees.{stands_kept}
use Rattle.trie_law.proofs.heap_steps.a_tree_stands_while_its_blocks_are_kept.Goals as goal

pub returns : goal.returns
returns c = stands_kept
