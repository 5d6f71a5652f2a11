use Rattle.std.proofs.lemmas.Result.{on_ok_weaker}
use Rattle.host_report.proofs.Written.{three_put}
use Rattle.host_report.proofs.lines.put_contents.Goals as goal

pub returns-clause-text : goal.returns-clause-text
returns-clause-text c = on_ok_weaker c.put_maps-2.result (three_put _ _ _ _ _ _ _ c.in_ok-put_refs.ensures.text c.in_ok-put_maps.ensures.text) c.put_maps-2.ensures.text
