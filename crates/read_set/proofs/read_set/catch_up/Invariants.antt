use Rattle.std.proofs.Common.{◌≡◌, ◌-◌, length, take}
use Rattle.read_set.specs.Reads.{cells_of}
use Rattle.read_set.proofs.read_set.catch_up.Given as goal

abbrev pub invariant-loop-index : goal.invariant-loop-index
invariant-loop-index l = record {
  first : l.index.addresses ≡ take (length l.index.addresses) (cells_of l.notes);
  room : l.index.room ≡ l.initial.index.room;
}

abbrev pub decreases-loop-index : goal.decreases-loop-index
decreases-loop-index l = length l.notes - length l.index.addresses
