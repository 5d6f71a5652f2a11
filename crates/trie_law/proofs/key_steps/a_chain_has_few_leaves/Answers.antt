use Rattle.trie_law.proofs.Bounds.{chain_most}
use Rattle.trie_law.proofs.key_steps.a_chain_has_few_leaves.Goals as goal

pub returns : goal.returns
returns c = chain_most
