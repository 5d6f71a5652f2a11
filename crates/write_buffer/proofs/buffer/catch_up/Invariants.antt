use Rattle.std.proofs.Common.{◌≡◌, ◌-◌, length, take}
use Rattle.std.specs.Map.{keys_of}
use Rattle.write_buffer.proofs.buffer.catch_up.Given as goal

abbrev pub invariant-loop-index : goal.invariant-loop-index
invariant-loop-index l = record {
  first : l.index.addresses ≡ take (length l.index.addresses) (keys_of l.writes);
  room : l.index.room ≡ l.initial.index.room;
}

abbrev pub decreases-loop-index : goal.decreases-loop-index
decreases-loop-index l = length l.writes - length l.index.addresses
