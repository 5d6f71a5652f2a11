use Rattle.std.proofs.Common.{refl, arith}
use Rattle.script_cursor.proofs.Spoken.{part_either, work_either}
use Rattle.script_cursor.proofs.cursor.Cursor.begin_either.Goals as goal

pub returns : goal.returns
returns c = record {
  comes = rw (c.in_ok-push.ensures.next, c.in_ok-push.ensures.own, c.as_slice.ensures, part_either) refl;
  less = rw (c.in_ok-push.ensures.work, c.as_slice.ensures, work_either) (omega arith);
}
