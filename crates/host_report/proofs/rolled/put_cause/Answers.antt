use Rattle.std.proofs.Common.{[], ◌∷◌, codes, decimal}
use Rattle.std.proofs.lemmas.Result.{on_ok_weaker}
use Rattle.host_report.proofs.Written.{last_put, three_words_put}
use Rattle.host_report.proofs.rolled.put_cause.Goals as goal

pub returns-in_ok-put_cell-in-ReadConflict-clause-text : goal.returns-in_ok-put_cell-in-ReadConflict-clause-text
returns-in_ok-put_cell-in-ReadConflict-clause-text c =
    rw c.in-ReadConflict.is (on_ok_weaker c.put_meta.result (last_put _ _ _ (codes "readconflict" ∷ decimal c.in-ReadConflict.addr.0 ∷ []) _ c.in_ok-put_cell-in-ReadConflict.ensures.text) c.put_meta.ensures.text)

pub returns-in_ok-put_cell-in-WriteConflict-clause-text : goal.returns-in_ok-put_cell-in-WriteConflict-clause-text
returns-in_ok-put_cell-in-WriteConflict-clause-text c =
    rw c.in-WriteConflict.is
    (on_ok_weaker c.put_meta-in-WriteConflict.result (last_put _ _ _ (codes "writeconflict" ∷ decimal c.in-WriteConflict.addr.0 ∷ []) _ c.in_ok-put_cell-in-WriteConflict.ensures.text) c.put_meta-in-WriteConflict.ensures.text)

pub returns-in_ok-put_number_word-in-ClockMoved-clause-text : goal.returns-in_ok-put_number_word-in-ClockMoved-clause-text
returns-in_ok-put_number_word-in-ClockMoved-clause-text c =
    rw c.in-ClockMoved.is
    (on_ok_weaker c.put_number_word-in-ClockMoved-2.result
    (three_words_put _ _ _ _ _ _ _ c.in_ok-put_word-in-ClockMoved.ensures.ok c.in_ok-put_number_word-in-ClockMoved.ensures.ok) c.put_number_word-in-ClockMoved-2.ensures.ok)
