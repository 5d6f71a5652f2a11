use Rattle.std.proofs.Common.{◌≡◌, take}
use Rattle.stm_model.specs.Heap.{over}
use Rattle.plain_cells.proofs.cells.PlainCells.written_heap.Given as goal

abbrev pub invariant-loop-i : goal.invariant-loop-i
invariant-loop-i g l = l.heap.items ≡ take l.i (over l.self.heap.items l.self.book.writes.items)
