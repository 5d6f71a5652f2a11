use Rattle.std.proofs.Common.{refl, arith}
use Rattle.script_cursor.proofs.ComesLemmas.{comes_too}
use Rattle.script_cursor.proofs.Spoken.{part_inner, work_inner}
use Rattle.script_cursor.proofs.cursor.Cursor.begin_inner.Goals as goal

pub returns : goal.returns
returns c =
    comes_too c.enter.result _ _ _ _ c.enter.new.self c.enter.ensures
    (rw (c.in_ok-push.ensures.next, c.in_ok-push.ensures.own, c.as_slice.ensures, part_inner) refl)
    (rw (c.in_ok-push.ensures.work, c.as_slice.ensures, work_inner) (omega arith))
