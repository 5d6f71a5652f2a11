use Rattle.ref_table.specs.Seats.{IsSameSeat}
use Rattle.table_tests.specs.Driving.{Rests}
use Rattle.table_tests.proofs.threads.commit_often.Given as goal

abbrev pub invariant-loop : goal.invariant-loop
invariant-loop g l = IsSameSeat l.initial.seat l.seat × Rests l.seat
