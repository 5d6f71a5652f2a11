use Rattle.trie_law.proofs.Splitting.{branch_sets}
use Rattle.trie_law.proofs.key_steps.a_key_is_set_below_a_branch.Goals as goal

pub returns : goal.returns
returns c = branch_sets
