use Rattle.ref_table.specs.Seats.{terms_in}
use Rattle.txn_run.specs.Flights.{cells_in_stm}
use Rattle.txn_run.proofs.Answered.{comes_ill, comes_well, ends_so, may_end_ill, owes_well}
use Rattle.txn_run.proofs.Reaching.{ends_ill, ends_well, rolled_may_end}
use Rattle.txn_run.proofs.Standing.{stands_here}
use Rattle.txn_run.proofs.runners.end_of.Goals as goal

pub take_turns-requires-clause-owes : goal.take_turns-requires-clause-owes
take_turns-requires-clause-owes g c =
    let stm = c.args.stm.now in
    let stands = stands_here g.L.Law.lawful g.L.Law.may stm c.args.seat.now c.args.flight.now c.requires.here c.stands.ensures in
    owes_well (g.L.Law.lawful stm.law) (g.L.Law.may stm.law) (terms_in stm) c.args.seat.now c.args.flight.now.attempt c.args.flight.now.attempt c.args.answer stands c.requires.ends c.in-Ok.out c.in-Ok.is

pub ask-requires-clause-asks : goal.ask-requires-clause-asks
ask-requires-clause-asks g c =
    let stm = c.args.stm.now in
    let stands = stands_here g.L.Law.lawful g.L.Law.may stm c.args.seat.now c.args.flight.now c.requires.here c.stands.ensures in
    may_end_ill (g.L.Law.lawful stm.law) (g.L.Law.may stm.law) (terms_in stm) c.args.seat.now c.args.flight.now.attempt c.args.flight.now.attempt c.args.answer stands c.requires.ends c.in-Err.cause c.in-Err.is

pub ending-requires-in-Err : goal.ending-requires-in-Err
ending-requires-in-Err g c =
    let stm = c.args.stm.now in
    let stands = stands_here g.L.Law.lawful g.L.Law.may stm c.args.seat.now c.args.flight.now c.requires.here c.stands.ensures in
    (ends_so (g.L.Law.lawful stm.law) (g.L.Law.may stm.law) (terms_in stm) c.args.seat.now c.args.flight.now.attempt c.ask.new.self.attempt c.args.answer stands c.requires.ends c.in-Err.cause c.in-Err.is
    c.ask.ensures.asked c.ask.ensures.stands.rests).over

pub outcome_of-requires-in-Err : goal.outcome_of-requires-in-Err
outcome_of-requires-in-Err g c =
    let stm = c.args.stm.now in
    let stands = stands_here g.L.Law.lawful g.L.Law.may stm c.args.seat.now c.args.flight.now c.requires.here c.stands.ensures in
    rolled_may_end _ c.in-Err.cause c.args.flight.now.attempt c.ask.new.self.attempt c.ending-in-Err.result
    (ends_so (g.L.Law.lawful stm.law) (g.L.Law.may stm.law) (terms_in stm) c.args.seat.now c.args.flight.now.attempt c.ask.new.self.attempt c.args.answer stands c.requires.ends c.in-Err.cause c.in-Err.is
    c.ask.ensures.asked c.ask.ensures.stands.rests) c.ending-in-Err.ensures

pub returns-in-Ok : goal.returns-in-Ok
returns-in-Ok g c =
    let stm = c.args.stm.now in
    let t = c.args.flight.now.attempt in
    let u = c.take_turns.new.flight.attempt in
    let stands = stands_here g.L.Law.lawful g.L.Law.may stm c.args.seat.now c.args.flight.now c.requires.here c.stands.ensures in
    let after = stands_here g.L.Law.lawful g.L.Law.may stm c.take_turns.new.seat c.take_turns.new.flight c.take_turns.ensures.here c.stands-in-Ok.ensures in
    record {
      ended = record {
        continues = c.take_turns.ensures.continues;
        on = after.on;
        over = c.take_turns.ensures.over;
        so = ends_well (g.L.Law.lawful stm.law) (cells_in_stm stm) _ _ _ u c.ending.result c.in-Ok.out c.outcome_of.result c.ending.ensures c.outcome_of.ensures
            (comes_well (g.L.Law.lawful stm.law) (g.L.Law.may stm.law) (terms_in stm) c.args.seat.now t u c.args.answer stands c.requires.ends c.in-Ok.out c.in-Ok.is _ _ _ c.take_turns.ensures.ends);
      };
    }

pub returns-in-Err : goal.returns-in-Err
returns-in-Err g c =
    let stm = c.args.stm.now in
    let t = c.args.flight.now.attempt in
    let stands = stands_here g.L.Law.lawful g.L.Law.may stm c.args.seat.now c.args.flight.now c.requires.here c.stands.ensures in
    let asked = c.ask.ensures in
    record {
      ended = record {
        continues = asked.continues;
        on = asked.stands.on;
        over = (ends_so (g.L.Law.lawful stm.law) (g.L.Law.may stm.law) (terms_in stm) c.args.seat.now t c.ask.new.self.attempt c.args.answer stands c.requires.ends c.in-Err.cause c.in-Err.is asked.asked asked.stands.rests).over;
        so = ends_ill (g.L.Law.lawful stm.law) (cells_in_stm stm) _ _ _ c.ask.new.self.attempt c.ending-in-Err.result c.outcome_of-in-Err.result c.ending-in-Err.ensures c.outcome_of-in-Err.ensures
            (comes_ill (g.L.Law.lawful stm.law) (g.L.Law.may stm.law) (terms_in stm) c.args.seat.now t c.ask.new.self.attempt c.args.answer stands c.requires.ends c.in-Err.cause c.in-Err.is asked.asked asked.stands.rests _);
      };
    }
