use Rattle.std.proofs.Common.{rules, arith}
use Rattle.stm_model.specs.Heap.{over}
use Rattle.stm_model.proofs.HeapLemmas.{length-over}
use Rattle.plain_cells.proofs.Fronts.{front_more, front_whole}
use Rattle.plain_cells.proofs.cells.PlainCells.written_heap.Goals as goal

pub loop-i-preserved : goal.loop-i-preserved
loop-i-preserved g c =
    let cells = c.args.self.now in
    front_more (over cells.heap.items cells.book.writes.items) c.loop-i.heap.items c.push.new.self.items c.loop-i.i c.value.result
    (omega (arith, length-over cells.heap.items cells.book.writes.items)) c.loop-i.invariant c.value.ensures (search rules)

pub returns : goal.returns
returns g c =
    let cells = c.args.self.now in
    front_whole (over cells.heap.items cells.book.writes.items) c.loop-i.heap.items c.loop-i.i
    (omega (arith, length-over cells.heap.items cells.book.writes.items)) c.loop-i.invariant
