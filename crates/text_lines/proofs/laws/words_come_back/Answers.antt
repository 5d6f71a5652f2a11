use Rattle.text_lines.proofs.LineLemmas.{words_come_back}
use Rattle.text_lines.proofs.laws.words_come_back.Goals as goal

pub returns : goal.returns
returns c = words_come_back
