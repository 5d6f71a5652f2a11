use Rattle.std.proofs.Common.{◌≡◌, length, vec_capacity}
use Rattle.write_buffer.specs.Indexed.{IsIndexed}
use Rattle.write_buffer.proofs.Undoing.{IsUndoing}
use Rattle.write_buffer.proofs.buffer.WriteBuffer.undo.Given as goal

abbrev pub invariant-loop-mark : goal.invariant-loop-mark
invariant-loop-mark l = record {
  undoing : IsUndoing l.fn.self l.fn.mark l.self-inside.writes.items l.self-inside.replaced.items;
  indexed : IsIndexed l.self-inside.index l.self-inside.writes.items;
  room : vec_capacity l.self-inside.writes ≡ vec_capacity l.initial.self-inside.writes;
  index_room : l.self-inside.index.room ≡ l.initial.self-inside.index.room;
  restores_room : vec_capacity l.self-inside.replaced ≡ vec_capacity l.initial.self-inside.replaced;
}

abbrev pub decreases-loop-mark : goal.decreases-loop-mark
decreases-loop-mark l = length l.self-inside.replaced.items
