use Rattle.std.proofs.Common.{◌≡◌, map}
use Rattle.std.specs.List.{range_with_len}
use Rattle.stm_model.specs.World.{World}
use Rattle.host_trace.specs.Flights.{ShowsWorld}
use Rattle.host_trace.proofs.listing.refs_in.Given as goal

abbrev pub invariant-loop-cell : goal.invariant-loop-cell
invariant-loop-cell l = (w : World) → ShowsWorld l.simulation w → l.refs ≡ map (λ cell. w.value cell) (range_with_len 0 l.cell)
