use Rattle.std.proofs.Common.{◌≡◌, ◌++◌}
use Rattle.host_trace.proofs.listing.append.Given as goal

abbrev pub invariant-loop-line : goal.invariant-loop-line
invariant-loop-line l = l.rolled ≡ l.initial.rolled ++ l.yielded
