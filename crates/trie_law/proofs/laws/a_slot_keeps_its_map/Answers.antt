use Rattle.trie_law.proofs.Holdings.{slot_pairs}
use Rattle.trie_law.proofs.OneMap.{slot_keeps}
use Rattle.trie_law.proofs.laws.a_slot_keeps_its_map.Goals as goal

pub returns-clause-values : goal.returns-clause-values
returns-clause-values c = slot_keeps

pub returns-clause-pairs : goal.returns-clause-pairs
returns-clause-pairs c = slot_pairs
