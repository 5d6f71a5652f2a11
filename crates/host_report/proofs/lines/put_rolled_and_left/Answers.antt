use Rattle.std.proofs.lemmas.Result.{on_ok_weaker}
use Rattle.host_report.proofs.Written.{three_put}
use Rattle.host_report.proofs.lines.put_rolled_and_left.Goals as goal

pub returns-clause-text : goal.returns-clause-text
returns-clause-text c = on_ok_weaker c.put_all_left-2.result (three_put _ _ _ _ _ _ _ c.in_ok-put_all_rolled.ensures.text c.in_ok-put_all_left.ensures.text) c.put_all_left-2.ensures.text
