use Rattle.std.proofs.Common.{[], ◌∷◌, codes}
use Rattle.std.proofs.lemmas.Result.{on_ok_weaker}
use Rattle.host_report.proofs.Written.{report_written}
use Rattle.host_report.proofs.lines.put_report.Goals as goal

pub returns-clause-text : goal.returns-clause-text
returns-clause-text c =
    on_ok_weaker c.put_closing.result (report_written _ _ _ _ _ (codes "ledger" ∷ codes "1" ∷ []) _ _ _ c.in_ok-put_head.ensures c.in_ok-put_rows.ensures.text c.in_ok-put_rolled_and_left.ensures.text) c.put_closing.ensures.text
