use Rattle.text_lines.proofs.LineLemmas.{fields_come_back, only_fields_come_back}
use Rattle.text_lines.proofs.laws.fields_come_back.Goals as goal

pub returns : goal.returns
returns c = λ rows. (only_fields_come_back rows, fields_come_back rows)
