use Rattle.ref_table.specs.Seats.{terms_in}
use Rattle.txn_drive.proofs.Onward.{continues_on}
use Rattle.txn_run.proofs.Standing.{stands_here}
use Rattle.txn_run.proofs.Turned.{falls_back, falls_on, may_abandon, turns_back, turns_on}
use Rattle.txn_run.proofs.to_end.take_turn.Goals as goal

pub ask-requires-clause-asks : goal.ask-requires-clause-asks
ask-requires-clause-asks g c =
    let stm = c.args.stm.now in
    may_abandon (g.L.Law.lawful stm.law) (g.L.Law.may stm.law) (terms_in stm) c.run_late-answer.new.flight.attempt c.in-Err.cause c.stands.ensures.rests c.run_late-answer.ensures.going c.in-Err.ensures.ran.causes

pub returns-in-Ok-clause-continues : goal.returns-in-Ok-clause-continues
returns-in-Ok-clause-continues g c = continues_on _ _ _ c.run_late-answer.ensures.went.continues c.end_late.ensures.continues

pub returns-in-Ok-clause-turns : goal.returns-in-Ok-clause-turns
returns-in-Ok-clause-turns g c = λ refused first reads before turn.
    let stm = c.args.stm.now in
    let ran = c.run_late-answer in
    turns_on g.B.Body.late_means g.B.Body.late_leaves (g.L.Law.lawful stm.law) (g.L.Law.may stm.law) (terms_in stm) ran.new.seat c.args.flight.now.attempt ran.new.flight.attempt c.end_late.new.self.attempt
    c.args.body.now ran.new.body c.args.token c.requires.late (stands_here g.L.Law.lawful g.L.Law.may stm ran.new.seat ran.new.flight ran.ensures.here c.stands.ensures) ran.ensures.going ran.ensures.went.turn
    ran.result ran.ensures.ran _ first reads before turn c.in-Ok.is c.end_late.ensures.led c.end_late.ensures.stands.rests

pub returns-in-Ok-clause-falls : goal.returns-in-Ok-clause-falls
returns-in-Ok-clause-falls g c =
    let stm = c.args.stm.now in
    let ran = c.run_late-answer in
    falls_on g.B.Body.late_means g.B.Body.late_leaves (g.L.Law.lawful stm.law) (g.L.Law.may stm.law) (terms_in stm) ran.new.seat c.args.flight.now.attempt ran.new.flight.attempt c.end_late.new.self.attempt
    c.args.body.now ran.new.body c.args.token c.requires.late (stands_here g.L.Law.lawful g.L.Law.may stm ran.new.seat ran.new.flight ran.ensures.here c.stands.ensures) ran.ensures.going ran.ensures.went.turn
    ran.result ran.ensures.ran c.requires.within c.end_late.ensures.led c.end_late.ensures.stands.rests

pub returns-in-Err-clause-continues : goal.returns-in-Err-clause-continues
returns-in-Err-clause-continues g c = continues_on _ _ _ c.run_late-answer.ensures.went.continues c.ask.ensures.continues

pub returns-in-Err-clause-turns : goal.returns-in-Err-clause-turns
returns-in-Err-clause-turns g c = λ refused first reads before turn.
    let stm = c.args.stm.now in
    let ran = c.run_late-answer in
    turns_back g.B.Body.late_means g.B.Body.late_leaves (g.L.Law.lawful stm.law) (g.L.Law.may stm.law) (terms_in stm) ran.new.seat c.args.flight.now.attempt ran.new.flight.attempt c.ask.new.self.attempt
    c.args.body.now ran.new.body c.args.token c.requires.late (stands_here g.L.Law.lawful g.L.Law.may stm ran.new.seat ran.new.flight ran.ensures.here c.stands.ensures) ran.ensures.going ran.ensures.went.turn
    ran.result ran.ensures.ran _ first reads before turn c.in-Err.cause c.in-Err.is c.ask.ensures.asked c.ask.ensures.stands.rests

pub returns-in-Err-clause-falls : goal.returns-in-Err-clause-falls
returns-in-Err-clause-falls g c =
    let stm = c.args.stm.now in
    let ran = c.run_late-answer in
    falls_back g.B.Body.late_means g.B.Body.late_leaves (g.L.Law.lawful stm.law) (g.L.Law.may stm.law) (terms_in stm) ran.new.seat c.args.flight.now.attempt ran.new.flight.attempt c.ask.new.self.attempt
    c.args.body.now ran.new.body c.args.token c.requires.late (stands_here g.L.Law.lawful g.L.Law.may stm ran.new.seat ran.new.flight ran.ensures.here c.stands.ensures) ran.ensures.going ran.ensures.went.turn
    ran.result ran.ensures.ran c.in-Err.cause c.requires.within c.ask.ensures.asked c.ask.ensures.stands.rests
