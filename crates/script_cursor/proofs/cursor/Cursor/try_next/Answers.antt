use Rattle.std.proofs.Common.{refl, arith}
use Rattle.script_cursor.proofs.ComesLemmas.{comes_too}
use Rattle.script_cursor.proofs.NextLemmas.{opened}
use Rattle.script_cursor.proofs.WorkLemmas.{parts_cons}
use Rattle.script_cursor.proofs.cursor.Cursor.try_next.Goals as goal

pub returns-in_ok-push-in-Some : goal.returns-in_ok-push-in-Some
returns-in_ok-push-in-Some c =
    let o = opened _ _ _ c.in-Some.ensures.lookup.3.0 c.in-Some.ensures.lookup.1 in
    let pushed = c.in_ok-push-in-Some.ensures in
    comes_too c.enter.result _ _ _ _ c.enter.new.self c.enter.ensures (rw (pushed.next, pushed.own, c.as_slice.ensures, c.in-Retried.is, o) refl)
    (rw (pushed.work, c.as_slice.ensures, o, parts_cons) (omega arith))
