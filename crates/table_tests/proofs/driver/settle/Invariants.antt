use Rattle.ref_table.specs.Seats.{IsSameSeat, terms_in}
use Rattle.table_tests.specs.Driving.{IsOn}
use Rattle.table_tests.proofs.driver.settle.Given as goal

abbrev pub invariant-loop : goal.invariant-loop
invariant-loop g l = IsSameSeat l.initial.seat l.seat × IsOn (terms_in l.stm) l.seat l.attempt.attempt
