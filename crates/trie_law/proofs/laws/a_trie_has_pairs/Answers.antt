use Rattle.std.proofs.Common.{arith}
use Rattle.trie_law.proofs.Collected.{all_on_way, all_values, trie_has_pairs}
use Rattle.trie_law.proofs.laws.a_trie_has_pairs.Goals as goal

pub returns-clause-pairs : goal.returns-clause-pairs
returns-clause-pairs c = trie_has_pairs

pub returns-clause-collected : goal.returns-clause-collected
returns-clause-collected c = λ layout heap root key tree trie. all_values 0 0 key tree (omega arith) trie.shaped

pub returns-clause-distinct : goal.returns-clause-distinct
returns-clause-distinct c = λ layout heap root tree trie. (all_on_way 0 0 tree (omega arith) trie.shaped).distinct
