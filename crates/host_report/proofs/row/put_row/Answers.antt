use Rattle.std.proofs.lemmas.Result.{on_ok_weaker}
use Rattle.host_report.proofs.Written.{row_written}
use Rattle.host_report.proofs.row.put_row.Goals as goal

pub returns-clause-text : goal.returns-clause-text
returns-clause-text c =
    on_ok_weaker c.end_line.result (row_written _ _ _ _ _ _ _ _ _ _ _ _ _ _ _ _ c.in_ok-put_number.ensures.ok c.in_ok-put_kind.ensures c.in_ok-put_name.ensures.text
    c.in_ok-put_result.ensures.text c.in_ok-put_prints.ensures.text c.in_ok-put_runs.ensures.text c.in_ok-put_drawn.ensures) c.end_line.ensures.ok
