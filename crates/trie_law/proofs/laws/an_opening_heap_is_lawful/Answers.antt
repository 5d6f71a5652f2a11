use Rattle.trie_law.proofs.Contents.{opening_holds}
use Rattle.trie_law.proofs.Openings.{opening_lawful}
use Rattle.trie_law.proofs.laws.an_opening_heap_is_lawful.Goals as goal

pub returns-clause-law : goal.returns-clause-law
returns-clause-law c = opening_lawful

pub returns-clause-holds : goal.returns-clause-holds
returns-clause-holds c = opening_holds
