use Rattle.std.proofs.Common.{◌≡◌, ◌+◌, ◌≤◌, ◌++◌, drop, length, vec_capacity}
use Rattle.stm_model.specs.Handlers.{undoing}
use Rattle.plain_cells.proofs.book.undo_hooks.Given as goal

abbrev pub invariant-loop-book : goal.invariant-loop-book
invariant-loop-book l = record {
  runs : l.book.runs.items ++ undoing (drop l.count l.book.hooks.items) ≡ l.initial.book.runs.items ++ undoing (drop l.count l.initial.book.hooks.items);
  room : length l.book.runs.items + length l.book.hooks.items ≤ vec_capacity l.book.runs;
  count : l.count ≤ length l.book.hooks.items;
  writes : l.book.writes ≡ l.initial.book.writes;
  laters : l.book.laters ≡ l.initial.book.laters;
}

abbrev pub decreases-loop-book : goal.decreases-loop-book
decreases-loop-book l = length l.book.hooks.items
