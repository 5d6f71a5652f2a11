use Rattle.std.proofs.Common.{◌+◌}
use Rattle.ref_table.specs.Seats.{terms_in}
use Rattle.stm_model.specs.Accesses.{ExchangeClock}
use Rattle.table_tests.proofs.Driven.{clock_fits, decided_fits, decides, may_next, of_clock, on_next, on_rung, to_ring}
use Rattle.table_tests.proofs.driver.advance.Goals as goal

pub perform-found-requires-clause-may : goal.perform-found-requires-clause-may
perform-found-requires-clause-may g c =
    let makes = c.in-Access.ensures.promises in
    may_next (terms_in c.args.stm.now) c.args.seat.now c.args.attempt.now.attempt makes.act c.in-Access.access c.requires.is_on makes.next makes.made

pub take-requires : goal.take-requires
take-requires g c =
    c.in-Access.ensures.promises.takes c.perform-found.result
    (clock_fits (terms_in c.args.stm.now) c.args.seat.now c.args.attempt.now.attempt c.in-Access.access c.perform-found.result c.requires.is_on c.perform-found.ensures.fits)

pub returns-in-Access-clause-is_on : goal.returns-in-Access-clause-is_on
returns-in-Access-clause-is_on g c =
    let makes = c.in-Access.ensures.promises in
    on_next (terms_in c.args.stm.now) c.args.seat.now c.perform-found.new.self c.args.attempt.now.attempt c.take.new.self.attempt makes.act c.in-Access.access c.perform-found.result
    c.requires.is_on makes.next c.perform-found.ensures.performs c.perform-found.ensures.safe.own c.take.ensures.after c.take.ensures.same

pub perform-found-requires-in-Decide-clause-word : goal.perform-found-requires-in-Decide-clause-word
perform-found-requires-in-Decide-clause-word g c = of_clock (terms_in c.args.stm.now) c.in-Decide.old (c.in-Decide.old + 1)

pub perform-found-requires-in-Decide-clause-may : goal.perform-found-requires-in-Decide-clause-may
perform-found-requires-in-Decide-clause-may g c =
    may_next (terms_in c.args.stm.now) c.args.seat.now c.args.attempt.now.attempt (ExchangeClock c.in-Decide.old) _ c.requires.is_on c.in-Decide.ensures.promises.next (decides c.in-Decide.old)

pub take-requires-in-Decide : goal.take-requires-in-Decide
take-requires-in-Decide g c =
    c.in-Decide.ensures.promises.takes c.perform-found-in-Decide.result
    (decided_fits (terms_in c.args.stm.now) c.args.seat.now c.args.attempt.now.attempt c.in-Decide.old (c.in-Decide.old + 1) c.perform-found-in-Decide.result c.requires.is_on c.perform-found-in-Decide.ensures.fits)

pub returns-in-Decide-clause-is_on : goal.returns-in-Decide-clause-is_on
returns-in-Decide-clause-is_on g c =
    on_next (terms_in c.args.stm.now) c.args.seat.now c.perform-found-in-Decide.new.self c.args.attempt.now.attempt c.take-in-Decide.new.self.attempt (ExchangeClock c.in-Decide.old) _ c.perform-found-in-Decide.result
    c.requires.is_on c.in-Decide.ensures.promises.next c.perform-found-in-Decide.ensures.performs c.perform-found-in-Decide.ensures.safe.own c.take-in-Decide.ensures.after c.take-in-Decide.ensures.same

pub ran-requires : goal.ran-requires
ran-requires g c = to_ring c.args.attempt.now.attempt c.in-Ring.ensures.promises.some

pub returns-in-Ring-clause-is_on : goal.returns-in-Ring-clause-is_on
returns-in-Ring-clause-is_on g c =
    let some = c.in-Ring.ensures.promises.some in
    on_rung (terms_in c.args.stm.now) c.args.seat.now c.args.attempt.now.attempt c.ran.new.self.attempt c.requires.is_on some (c.ran.ensures.does some) c.ran.ensures.same (c.goes_on.ensures search)
