use Rattle.std.proofs.Common.{refl, arith}
use Rattle.script_cursor.proofs.cursor.Cursor.enter.Goals as goal

pub returns : goal.returns
returns c = record {
  comes =
      rw (c.tell.ensures.talk, c.in_ok-push-2.ensures.next, c.in_ok-push.ensures.next, c.in_ok-push-2.ensures.own, c.in_ok-push.ensures.own, c.registers-registers.ensures, c.count-count.ensures) refl;
  less = rw (c.tell.ensures.left, c.in_ok-push-2.ensures.work, c.in_ok-push.ensures.work) (omega arith);
}
