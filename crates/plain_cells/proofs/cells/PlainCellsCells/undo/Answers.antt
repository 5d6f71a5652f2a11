use Rattle.std.proofs.Common.{arith}
use Rattle.plain_cells.proofs.Nested.{Nest-left, WriteWords-left}
use Rattle.plain_cells.proofs.cells.PlainCellsCells.undo.Goals as goal

pub invariant_of-self-else-is_none : goal.invariant_of-self-else-is_none
invariant_of-self-else-is_none g c = let cells = c.args.self.now in record {
  short = cells.short;
  words = cells.words;
  keeps_law = cells.keeps_law;
  agrees = cells.agrees;
  room = cells.room;
  depth = omega (arith, cells.depth, c.remove-former.ensures.len);
  nested = Nest-left _ cells.saved.items _ c.remove-former.result (omega arith) c.remove-former.ensures.value c.remove-former.ensures.items cells.nested;
  written = (cells.written.0, WriteWords-left cells.saved.items _ c.remove-former.ensures.items cells.written.1);
  answer = cells.answer;
}
