use Rattle.trie_law.proofs.AllContents.{contents_there, one_contents}
use Rattle.trie_law.proofs.laws.a_lawful_heap_has_contents.Goals as goal

pub returns-clause-some : goal.returns-clause-some
returns-clause-some c = contents_there

pub returns-clause-only : goal.returns-clause-only
returns-clause-only c = one_contents
