use Rattle.std.proofs.Common.{◌≡◌}
use Rattle.attempt_tests.proofs.attempts.ends.reserved_room_is_enough_for_so_many_cells.Given as goal

abbrev pub invariant-loop-cell : goal.invariant-loop-cell
invariant-loop-cell g l = l.attempt.attempt.settings.clock ≡ 9

abbrev pub invariant-loop-cell-2 : goal.invariant-loop-cell-2
invariant-loop-cell-2 g l = l.attempt.attempt.settings.clock ≡ 9
