use Rattle.trie_law.proofs.Sets.{set_copied, set_in_place}
use Rattle.trie_law.proofs.key_steps.a_key_is_set_at_a_branch.Goals as goal

pub returns-clause-in_place : goal.returns-clause-in_place
returns-clause-in_place c = set_in_place

pub returns-clause-copied : goal.returns-clause-copied
returns-clause-copied c = set_copied
