use Rattle.std.proofs.Common.{◌≡◌}
use Rattle.attempt_tests.proofs.interleavings.replayed.Given as goal

abbrev pub invariant-loop-second : goal.invariant-loop-second
invariant-loop-second l = l.pair.simulation.settings.callers ≡ 2
