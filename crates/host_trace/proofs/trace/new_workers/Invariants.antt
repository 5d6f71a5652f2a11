use Rattle.std.proofs.Common.{◌≡◌, length}
use Rattle.std.specs.List.{All}
use Rattle.host_trace.specs.Tracings.{IsNew}
use Rattle.host_trace.proofs.trace.new_workers.Given as goal

abbrev pub invariant-loop : goal.invariant-loop
invariant-loop l = record { count : length l.workers.items ≡ l.counter; each : All IsNew l.workers.items }
