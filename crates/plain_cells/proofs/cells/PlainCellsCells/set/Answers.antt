use Rattle.std.proofs.Common.{arith}
use Rattle.plain_cells.proofs.Nested.{WriteWords-put}
use Rattle.plain_cells.proofs.cells.PlainCellsCells.set.Goals as goal

pub invariant_of-self-in_default-put_write : goal.invariant_of-self-in_default-put_write
invariant_of-self-in_default-put_write g c = let cells = c.args.self.now in record {
  short = cells.short;
  words = cells.words;
  keeps_law = cells.keeps_law;
  agrees = cells.agrees;
  room = cells.room;
  depth = cells.depth;
  nested = cells.nested;
  written = WriteWords-put cells.book (record cells.book { writes = c.put_write.new.writes }) cells.saved.items c.args.addr.0 c.args.value c.in_default-put_write.ensures.ok (omega (arith, c.ranges.value)) cells.written;
  answer = cells.answer;
}
