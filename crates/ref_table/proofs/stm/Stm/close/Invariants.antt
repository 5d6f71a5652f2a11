use Rattle.std.proofs.Common.{◌≡◌, ◌≤◌, length, take, vec_capacity}
use Rattle.stm_model.specs.History.{state}
use Rattle.ref_table.proofs.stm.Stm.close.Given as goal

abbrev pub invariant-loop-cell : goal.invariant-loop-cell
invariant-loop-cell g l = record {
  same : l.closed ≡ l.initial.closed;
  count : length l.values.items ≡ l.cell;
  room : l.cells ≤ vec_capacity l.values;
  so_far : l.values.items ≡ take l.cell (state l.fn.self.opening l.fn.maker.seen (length l.fn.maker.seen));
}
