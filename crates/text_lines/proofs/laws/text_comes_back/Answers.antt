use Rattle.text_lines.proofs.LineLemmas.{text_comes_back}
use Rattle.text_lines.proofs.laws.text_comes_back.Goals as goal

pub returns : goal.returns
returns c = text_comes_back
