use Rattle.ref_table.specs.Seats.{terms_in}
use Rattle.stm_model.specs.Moves.{AwaitsAsk, MayAsk}
use Rattle.table_tests.proofs.Driven.{on_asked}
use Rattle.table_tests.proofs.driver.put.Goals as goal

pub returns : goal.returns
returns g c =
    let t = c.args.attempt.now.attempt in
    let waits : AwaitsAsk t = c.waits.ensures search in
    let may : MayAsk 2 t c.args.ask = c.may_ask.ensures.cells search in
    on_asked (terms_in c.args.stm.now) c.args.seat.now t c.ask.new.self.attempt c.args.ask c.requires.is_on c.requires.cells waits may c.ask.ensures.moves c.ask.ensures.same (c.goes_on.ensures search)
