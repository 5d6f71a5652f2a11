use Rattle.std.proofs.Common.{refl, arith}
use Rattle.script_cursor.proofs.ComesLemmas.{comes_too}
use Rattle.script_cursor.proofs.NextLemmas.{opened}
use Rattle.script_cursor.proofs.WorkLemmas.{block_cons}
use Rattle.script_cursor.proofs.cursor.Cursor.go_on.Goals as goal

pub returns-in_ok-push-in-Some : goal.returns-in_ok-push-in-Some
returns-in_ok-push-in-Some c =
    let o = opened _ _ _ c.in-Some.ensures.lookup.3.0 c.in-Some.ensures.lookup.1 in
    let pushed = c.in_ok-push-in-Some.ensures in
    comes_too c.begin.result _ _ _ _ c.begin.new.self c.begin.ensures (rw (pushed.next, pushed.own, c.in-Kept.is, o) refl)
    (rw (pushed.work, o, block_cons) (omega arith))
