use Rattle.std.proofs.Common.{◌≡◌}
use Rattle.table_tests.proofs.making.so_many_seats_come_from_one_maker.Given as goal

abbrev pub invariant-loop-number : goal.invariant-loop-number
invariant-loop-number g l = l.maker.table ≡ l.stm.table
