use Rattle.std.proofs.Common.{◌≡◌, [], replicate}
use Rattle.host_trace.proofs.opening.empty_maps.Given as goal

abbrev pub invariant-loop : goal.invariant-loop
invariant-loop l = l.maps ≡ replicate l.counter []
