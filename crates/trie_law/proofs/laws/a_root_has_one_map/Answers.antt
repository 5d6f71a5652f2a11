use Rattle.trie_law.proofs.OneMap.{one_map}
use Rattle.trie_law.proofs.laws.a_root_has_one_map.Goals as goal

pub returns : goal.returns
returns c = λ layout heap root one other key first second. one_map layout heap root 0 key one other first.stands second.stands
