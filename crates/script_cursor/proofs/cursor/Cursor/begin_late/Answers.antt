use Rattle.std.proofs.Common.{refl, arith}
use Rattle.script_cursor.specs.Cursors.{next_in}
use Rattle.script_cursor.proofs.cursor.Cursor.begin_late.Goals as goal

pub returns-in_ok-push-in-Some : goal.returns-in_ok-push-in-Some
unfolding next_in
returns-in_ok-push-in-Some c = record {
  comes = rw (c.in_ok-push-in-Some.ensures.next, c.in_ok-push-in-Some.ensures.own, c.as_slice.ensures, c.requires, c.in-Some.ensures.some) refl;
  less = rw (c.in_ok-push-in-Some.ensures.work, c.as_slice.ensures) (omega (arith, c.in-Some.ensures.work));
}
