use Rattle.std.proofs.Common.{refl, arith}
use Rattle.script_cursor.proofs.Spoken.{part_late, work_late}
use Rattle.script_cursor.proofs.WorkLemmas.{lates_push}
use Rattle.script_cursor.proofs.cursor.Cursor.register_late.Goals as goal

pub returns : goal.returns
returns c = record {
  comes = rw (c.tell.ensures.talk, c.in_ok-add_late.ensures.ok, c.count-token.ensures, part_late) refl;
  less =
      let left = rw c.in_ok-add_late.ensures.ok at c.tell.ensures.left in
      let pushed = lates_push c.args.self.now.begun c.args.self.now.own.lates c.args.body.now in
      rw work_late (omega (arith, left, pushed));
}
