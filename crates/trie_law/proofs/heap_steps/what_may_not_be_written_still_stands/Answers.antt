use Rattle.trie_law.proofs.Growth.{stands_grown, trees_apart}
use Rattle.trie_law.proofs.heap_steps.what_may_not_be_written_still_stands.Goals as goal

pub returns-clause-stands : goal.returns-clause-stands
returns-clause-stands c = stands_grown

pub returns-clause-apart : goal.returns-clause-apart
returns-clause-apart c = trees_apart
