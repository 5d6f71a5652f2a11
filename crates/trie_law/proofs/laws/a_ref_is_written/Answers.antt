use Rattle.trie_law.proofs.RefCells.{ref_contents, ref_lawful, ref_may}
use Rattle.trie_law.proofs.laws.a_ref_is_written.Goals as goal

pub returns-clause-law : goal.returns-clause-law
returns-clause-law c = λ layout heap cell value lawful within. (ref_lawful layout heap cell value lawful within, ref_may layout heap cell value lawful within)

pub returns-clause-holds : goal.returns-clause-holds
returns-clause-holds c = λ layout heap cell value contents lawful within holds. ref_contents layout heap cell value lawful within contents holds
