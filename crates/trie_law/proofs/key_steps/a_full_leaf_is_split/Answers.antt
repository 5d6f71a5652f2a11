use Rattle.trie_law.proofs.Splitting.{holds_branch, holds_chain, holds_deeper, holds_leaf, holds_none, part_on_way, split_sets}
use Rattle.trie_law.proofs.key_steps.a_full_leaf_is_split.Goals as goal

pub returns-clause-none : goal.returns-clause-none
returns-clause-none c = holds_none

pub returns-clause-leaf : goal.returns-clause-leaf
returns-clause-leaf c = holds_leaf

pub returns-clause-chain : goal.returns-clause-chain
returns-clause-chain c = holds_chain

pub returns-clause-parts : goal.returns-clause-parts
returns-clause-parts c = part_on_way

pub returns-clause-branch : goal.returns-clause-branch
returns-clause-branch c = holds_branch

pub returns-clause-deeper : goal.returns-clause-deeper
returns-clause-deeper c = holds_deeper

pub returns-clause-sets : goal.returns-clause-sets
returns-clause-sets c = split_sets
