use Rattle.std.proofs.Common.{◌≡◌, length, take, vec_capacity}
use Rattle.cell_index.specs.Chains.{IsChained}
use Rattle.cell_index.proofs.index.CellIndex.truncate.Given as goal

abbrev pub invariant-loop-self : goal.invariant-loop-self
invariant-loop-self l = record {
  chained : IsChained l.self-inside.heads.items l.self-inside.entries.items;
  kept : take l.count l.self-inside.entries.items ≡ take l.count l.initial.self-inside.entries.items;
  heads : length l.self-inside.heads.items ≡ length l.initial.self-inside.heads.items;
  room : vec_capacity l.self-inside.entries ≡ vec_capacity l.initial.self-inside.entries;
}

abbrev pub decreases-loop-self : goal.decreases-loop-self
decreases-loop-self l = length l.self-inside.entries.items
