use Rattle.trie_law.proofs.Leaves.{chain_behind, leaf_copied, leaf_in_place, leaf_new}
use Rattle.trie_law.proofs.heap_steps.a_leaf_is_written.Goals as goal

pub returns-clause-new : goal.returns-clause-new
returns-clause-new c = leaf_new

pub returns-clause-copied : goal.returns-clause-copied
returns-clause-copied c = λ layout start below drawn after own block next copy first leaf rest chain handed grown made.
    leaf_copied layout start below own block next first leaf rest chain handed grown made drawn after copy

pub returns-clause-in_place : goal.returns-clause-in_place
returns-clause-in_place c = λ layout start below after own block next first leaf rest chain handed grown made.
    leaf_in_place layout start below own block next first leaf rest chain handed grown made after

pub returns-clause-taken_out : goal.returns-clause-taken_out
returns-clause-taken_out c = chain_behind
