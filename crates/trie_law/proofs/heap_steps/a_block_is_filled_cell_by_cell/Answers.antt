use Rattle.trie_law.proofs.Growth.{filled_more, filled_none}
use Rattle.trie_law.proofs.heap_steps.a_block_is_filled_cell_by_cell.Goals as goal

pub returns-clause-none : goal.returns-clause-none
returns-clause-none c = filled_none

pub returns-clause-cell : goal.returns-clause-cell
returns-clause-cell c = filled_more
