use Rattle.std.proofs.Common.{arith}
use Rattle.script_cursor.specs.Cursors.{next_of}
use Rattle.script_cursor.proofs.NextLemmas.{close_undone}
use Rattle.script_cursor.proofs.WorkLemmas.{lates_take}
use Rattle.script_cursor.proofs.cursor.Cursor.close.Goals as goal

pub returns-in_default : goal.returns-in_default
returns-in_default c = record {
  comes =
      rw (c.stand-in_default.ensures.result, c.stand-in_default.ensures.point, c.go_back.ensures)
      (close_undone c.args.end c.args.registers c.args.count (next_of c.args.self.now) c.args.self.now.own c.in_default.not-Kept);
  less =
      let taken = lates_take c.args.self.now.begun c.args.count c.args.self.now.own.lates in
      rw (c.stand-in_default.ensures.result, c.stand-in_default.ensures.point, c.go_back.ensures) (omega (arith, taken));
}
