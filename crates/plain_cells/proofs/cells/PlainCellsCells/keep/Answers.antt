use Rattle.std.proofs.Common.{arith}
use Rattle.plain_cells.proofs.Nested.{Nest-left, WriteWords-left}
use Rattle.plain_cells.proofs.cells.PlainCellsCells.keep.Goals as goal

pub invariant_of-self : goal.invariant_of-self
invariant_of-self g c = let cells = c.args.self.now in record {
  short = cells.short;
  words = cells.words;
  keeps_law = cells.keeps_law;
  agrees = cells.agrees;
  room = cells.room;
  depth = omega (arith, cells.depth, c.remove.ensures.len);
  nested = Nest-left _ cells.saved.items _ c.remove.result (omega arith) c.remove.ensures.value c.remove.ensures.items cells.nested;
  written = (cells.written.0, WriteWords-left cells.saved.items _ c.remove.ensures.items cells.written.1);
  answer = cells.answer;
}
