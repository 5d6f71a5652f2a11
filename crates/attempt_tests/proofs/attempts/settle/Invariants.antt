use Rattle.std.proofs.Common.{◌≡◌}
use Rattle.attempt_tests.proofs.attempts.settle.Given as goal

abbrev pub invariant-loop : goal.invariant-loop
invariant-loop g l = (l.attempt.attempt.settings.clock ≡ 9) × (l.attempt.attempt.serial ≡ l.initial.attempt.attempt.serial)
