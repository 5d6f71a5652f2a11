use Rattle.std.proofs.Common.{◌≡◌}
use Rattle.attempt_tests.proofs.attempts.do_at_once.Given as goal

abbrev pub invariant-loop-asked : goal.invariant-loop-asked
invariant-loop-asked g l = l.attempt.attempt.settings.clock ≡ 9
