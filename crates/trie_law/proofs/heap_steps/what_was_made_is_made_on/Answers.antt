use Rattle.trie_law.proofs.Made.{made_kept, made_nothing, made_of_nothing, made_then}
use Rattle.trie_law.proofs.heap_steps.what_was_made_is_made_on.Goals as goal

pub returns-clause-nothing : goal.returns-clause-nothing
returns-clause-nothing c = made_nothing

pub returns-clause-steps : goal.returns-clause-steps
returns-clause-steps c = made_then

pub returns-clause-new : goal.returns-clause-new
returns-clause-new c = made_of_nothing

pub returns-clause-kept : goal.returns-clause-kept
returns-clause-kept c = made_kept
