use Rattle.std.proofs.lemmas.Result.{on_ok_weaker}
use Rattle.host_report.proofs.Written.{rolled_written}
use Rattle.host_report.proofs.rolled.put_rolled.Goals as goal

pub returns-clause-text : goal.returns-clause-text
returns-clause-text c =
    on_ok_weaker c.end_line.result (rolled_written _ _ _ _ _ _ _ _ _ _ _ _ _ _ c.in_ok-put.ensures.ok c.in_ok-put_name.ensures.text c.in_ok-put_word.ensures.ok
    c.in_ok-put_number_word.ensures.ok c.in_ok-put_cause.ensures.text c.in_ok-put_trail.ensures.text) c.end_line.ensures.ok
