use Rattle.trie_law.proofs.Branches.{branch_copied, branch_in_place}
use Rattle.trie_law.proofs.heap_steps.a_branch_gets_a_child.Goals as goal

pub returns-clause-in_place : goal.returns-clause-in_place
returns-clause-in_place c = λ layout start below after own block number other i child children under within handed grown made some is_own filled header cells.
    branch_in_place layout start below own block number other i child children under within handed grown made after some is_own filled header cells

pub returns-clause-copied : goal.returns-clause-copied
returns-clause-copied c = λ layout start below drawn after own block number other i child copy children under within handed grown made size drew filled header cells.
    branch_copied layout start below own block number other i child children under within handed grown made drawn after copy size drew filled header cells
