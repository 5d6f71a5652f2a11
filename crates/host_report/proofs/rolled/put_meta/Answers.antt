use Rattle.std.proofs.lemmas.Result.{on_ok_weaker}
use Rattle.host_report.proofs.Written.{meta_written}
use Rattle.host_report.proofs.rolled.put_meta.Goals as goal

pub returns-clause-text : goal.returns-clause-text
returns-clause-text c =
    on_ok_weaker c.put_flag-2.result (meta_written _ _ _ _ _ _ _ _ _ _ _ _ c.from.ensures c.in_ok-put_word.ensures.ok c.in_ok-put_number.ensures.ok c.in_ok-put.ensures.ok
    c.in_ok-put_number-2.ensures.ok c.in_ok-put_flag.ensures) c.put_flag-2.ensures
