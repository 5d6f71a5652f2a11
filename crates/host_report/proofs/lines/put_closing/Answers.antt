use Rattle.std.proofs.lemmas.Result.{on_ok_weaker}
use Rattle.host_report.proofs.Written.{counts_put}
use Rattle.host_report.proofs.lines.put_closing.Goals as goal

pub returns-clause-text : goal.returns-clause-text
returns-clause-text c =
    on_ok_weaker c.put_count-2.result (counts_put _ _ _ _ _ _ _ _ _ c.len.ensures c.in_ok-put_contents.ensures.text c.in_ok-put_count.ensures) c.put_count-2.ensures
