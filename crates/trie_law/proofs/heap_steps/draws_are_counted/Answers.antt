use Rattle.trie_law.proofs.Bounds.{used_all, used_drew, used_filled, used_most}
use Rattle.trie_law.proofs.heap_steps.draws_are_counted.Goals as goal

pub returns-clause-drew : goal.returns-clause-drew
returns-clause-drew c = used_drew

pub returns-clause-filled : goal.returns-clause-filled
returns-clause-filled c = used_filled

pub returns-clause-most : goal.returns-clause-most
returns-clause-most c = used_most

pub returns-clause-full : goal.returns-clause-full
returns-clause-full c = used_all
