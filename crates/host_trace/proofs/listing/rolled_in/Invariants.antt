use Rattle.std.proofs.Common.{◌≡◌}
use Rattle.std.specs.List.{flat_map}
use Rattle.host_trace.proofs.listing.rolled_in.Given as goal

abbrev pub invariant-loop-worker : goal.invariant-loop-worker
invariant-loop-worker l = l.rolled ≡ flat_map (λ worker. worker.rolled.items) l.yielded
