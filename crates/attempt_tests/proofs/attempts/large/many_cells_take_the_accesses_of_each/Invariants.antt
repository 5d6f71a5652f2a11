use Rattle.std.proofs.Common.{◌≡◌}
use Rattle.attempt_tests.proofs.attempts.large.many_cells_take_the_accesses_of_each.Given as goal

abbrev pub invariant-loop-cell : goal.invariant-loop-cell
invariant-loop-cell g l = l.attempt.attempt.settings.clock ≡ 9

abbrev pub invariant-loop-cell-2 : goal.invariant-loop-cell-2
invariant-loop-cell-2 g l = l.attempt.attempt.settings.clock ≡ 9
