use Rattle.trie_law.proofs.Lawful.{map_may, map_written}
use Rattle.trie_law.proofs.laws.a_written_map_is_lawful.Goals as goal

pub returns : goal.returns
returns c = λ layout start below map block tree lawful within has some grown made shaped.
    (map_written layout start below map block lawful within has some tree grown made shaped, map_may layout start below map block lawful within has some tree grown made shaped)
