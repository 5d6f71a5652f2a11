use Rattle.std.proofs.lemmas.Result.{on_ok_weaker}
use Rattle.text_lines.proofs.PutLemmas.{row_put}
use Rattle.script_text.proofs.printing.put_row.Goals as goal

pub returns : goal.returns
returns c = on_ok_weaker c.end_line.result (row_put _ _ _ _ _ _ c.in_ok-put.ensures.ok c.in_ok-put_operands.ensures) c.end_line.ensures.ok
