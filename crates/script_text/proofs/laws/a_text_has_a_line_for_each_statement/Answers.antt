use Rattle.script_text.proofs.LineCounts.{few_statements}
use Rattle.script_text.proofs.laws.a_text_has_a_line_for_each_statement.Goals as goal

pub returns : goal.returns
returns c = few_statements
