use Rattle.ref_table.specs.Seats.{terms_in}
use Rattle.txn_drive.proofs.Onward.{continues_on}
use Rattle.txn_run.specs.Flights.{cells_in_stm}
use Rattle.txn_run.proofs.Finishing.{abandon_ends}
use Rattle.txn_run.proofs.Known.{active_here}
use Rattle.txn_run.proofs.Reaching.{comes_ill, comes_well, ends_ill, ends_well, rolled_may_end}
use Rattle.txn_run.proofs.Standing.{rests_waits, stands_here}
use Rattle.txn_run.proofs.Turned.{may_abandon}
use Rattle.txn_run.proofs.making.run_to_end.Goals as goal

pub ask-requires-clause-asks : goal.ask-requires-clause-asks
ask-requires-clause-asks g c =
    let stm = c.args.stm.now in
    may_abandon (g.L.Law.lawful stm.law) (g.L.Law.may stm.law) (terms_in stm) c.run_body-answer.new.flight.attempt c.in-Err.cause c.stands.ensures.rests c.run_body-answer.ensures.going c.in-Err.ensures.ran.causes

pub ending-requires-in-Err : goal.ending-requires-in-Err
ending-requires-in-Err g c =
    let u = c.run_body-answer.new.flight.attempt in
    (abandon_ends c.in-Err.cause u c.ask.new.self.attempt (rests_waits u c.stands.ensures.rests c.run_body-answer.ensures.going) c.ask.ensures.asked c.ask.ensures.stands.rests).over

pub outcome_of-requires-in-Err : goal.outcome_of-requires-in-Err
outcome_of-requires-in-Err g c =
    let u = c.run_body-answer.new.flight.attempt in
    rolled_may_end _ c.in-Err.cause u c.ask.new.self.attempt c.ending-in-Err.result
    (abandon_ends c.in-Err.cause u c.ask.new.self.attempt (rests_waits u c.stands.ensures.rests c.run_body-answer.ensures.going) c.ask.ensures.asked c.ask.ensures.stands.rests) c.ending-in-Err.ensures

pub returns-in-Ok-clause-continues : goal.returns-in-Ok-clause-continues
returns-in-Ok-clause-continues g c = continues_on _ _ _ c.run_body-answer.ensures.went.continues c.take_turns.ensures.continues

pub returns-in-Ok-clause-ends : goal.returns-in-Ok-clause-ends
returns-in-Ok-clause-ends g c =
    let stm = c.args.stm.now in
    let ran = c.run_body-answer in
    ends_well (g.L.Law.lawful stm.law) (cells_in_stm stm) _ _ _ c.take_turns.new.flight.attempt c.ending.result c.in-Ok.out c.outcome_of.result c.ending.ensures c.outcome_of.ensures
    (comes_well g.B.Body.means g.B.Body.leaves g.B.Body.late_means g.B.Body.late_leaves (g.L.Law.lawful stm.law) (g.L.Law.may stm.law) (cells_in_stm stm) c.args.body.now ran.new.body c.take_turns.new.body
    c.args.flight.now.attempt ran.new.flight.attempt c.requires.fresh.now ran.result ran.ensures.ran c.in-Ok.out c.in-Ok.is c.take_turns.new.flight.attempt c.take_turns.ensures.ends)

pub returns-in-Err-clause-continues : goal.returns-in-Err-clause-continues
returns-in-Err-clause-continues g c = continues_on _ _ _ c.run_body-answer.ensures.went.continues c.ask.ensures.continues

pub returns-in-Err-clause-over : goal.returns-in-Err-clause-over
returns-in-Err-clause-over g c =
    let u = c.run_body-answer.new.flight.attempt in
    (abandon_ends c.in-Err.cause u c.ask.new.self.attempt (rests_waits u c.stands.ensures.rests c.run_body-answer.ensures.going) c.ask.ensures.asked c.ask.ensures.stands.rests).over

pub returns-in-Err-clause-ends : goal.returns-in-Err-clause-ends
returns-in-Err-clause-ends g c =
    let stm = c.args.stm.now in
    let lawful = g.L.Law.lawful stm.law in
    let may = g.L.Law.may stm.law in
    let ran = c.run_body-answer in
    let u = ran.new.flight.attempt in
    let waits = rests_waits u c.stands.ensures.rests ran.ensures.going in
    let stands = stands_here g.L.Law.lawful g.L.Law.may stm ran.new.seat ran.new.flight ran.ensures.here c.stands.ensures in
    ends_ill lawful (cells_in_stm stm) _ _ _ c.ask.new.self.attempt c.ending-in-Err.result c.outcome_of-in-Err.result c.ending-in-Err.ensures c.outcome_of-in-Err.ensures
    (comes_ill g.B.Body.means g.B.Body.leaves g.B.Body.late_means g.B.Body.late_leaves lawful may (cells_in_stm stm) c.args.body.now ran.new.body ran.new.body
    c.args.flight.now.attempt u c.requires.fresh.now ran.result c.in-Err.cause c.in-Err.is ran.ensures.ran waits (active_here lawful may (terms_in stm) ran.new.seat u stands.on waits) stands.refused
    _ c.ask.new.self.attempt (abandon_ends c.in-Err.cause u c.ask.new.self.attempt waits c.ask.ensures.asked c.ask.ensures.stands.rests))
