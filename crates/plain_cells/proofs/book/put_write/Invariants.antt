use Rattle.std.proofs.Common.{◌≡◌, ◌++◌, take, drop}
use Rattle.stm_model.specs.Heap.{put}
use Rattle.plain_cells.proofs.book.put_write.Given as goal

abbrev pub invariant-loop-i : goal.invariant-loop-i
invariant-loop-i l =
    (l.writes ≡ l.initial.writes) × (put l.writes.items l.address l.value ≡ take l.i l.writes.items ++ put (drop l.i l.writes.items) l.address l.value)
