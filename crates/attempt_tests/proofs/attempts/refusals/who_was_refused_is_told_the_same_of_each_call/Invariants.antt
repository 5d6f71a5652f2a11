use Rattle.std.proofs.Common.{◌≡◌}
use Rattle.attempt_tests.proofs.attempts.refusals.who_was_refused_is_told_the_same_of_each_call.Given as goal

abbrev pub invariant-loop-asked : goal.invariant-loop-asked
invariant-loop-asked g l = l.attempt.attempt.settings.clock ≡ 9
