use Rattle.trie_law.proofs.Holdings.{one_pairs}
use Rattle.trie_law.proofs.laws.a_root_has_one_list_of_pairs.Goals as goal

pub returns : goal.returns
returns c = one_pairs
