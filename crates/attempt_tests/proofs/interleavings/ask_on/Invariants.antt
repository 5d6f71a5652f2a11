use Rattle.std.proofs.Common.{◌≡◌}
use Rattle.attempt_tests.proofs.interleavings.ask_on.Given as goal

abbrev pub invariant-loop : goal.invariant-loop
invariant-loop l = l.simulation.settings.callers ≡ 2
