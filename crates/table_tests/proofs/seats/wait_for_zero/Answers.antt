use Rattle.std.proofs.Common.{◌<◌, arith}
use Rattle.ref_table.specs.Seats.{terms_in}
use Rattle.stm_model.specs.World.{cells_in}
use Rattle.table_tests.proofs.Driven.{may_wait, of_zero, sets_zero, wait_rests}
use Rattle.table_tests.proofs.seats.wait_for_zero.Goals as goal

pub perform-requires-clause-word : goal.perform-requires-clause-word
perform-requires-clause-word c = of_zero (terms_in c.args.stm.now) c.requires.cells

pub perform-requires-clause-may : goal.perform-requires-clause-may
perform-requires-clause-may c =
    let two = c.requires.cells in
    let some : 0 < cells_in (terms_in c.args.stm.now) = omega (arith, two) in
    may_wait (terms_in c.args.stm.now) c.args.seat.now 0 _ c.requires.rests sets_zero some

pub returns-clause-rests : goal.returns-clause-rests
returns-clause-rests c =
    wait_rests c.args.seat.now c.perform.new.self 0 c.perform.result _ c.requires.rests sets_zero c.perform.ensures.performs c.perform.ensures.same
