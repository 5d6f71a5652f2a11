use Rattle.text_lines.proofs.PutLemmas.{line_by_words}
use Rattle.text_lines.proofs.laws.line_by_words.Goals as goal

pub returns : goal.returns
returns c = line_by_words
