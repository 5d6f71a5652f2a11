use Rattle.ref_table.specs.Seats.{terms_in}
use Rattle.txn_run.proofs.Standing.{asked_going, asked_tells, asked_turn, knows_here, may_be_asked}
use Rattle.txn_run.proofs.runners.ask_of.Goals as goal

pub ask-requires-clause-asks : goal.ask-requires-clause-asks
ask-requires-clause-asks g c =
    let stm = c.args.stm.now in
    may_be_asked (g.L.Law.lawful stm.law) (g.L.Law.may stm.law) stm c.args.flight.now.attempt c.stands.ensures.rests c.requires.going c.args.ask c.requires.body c.requires.able

pub returns-clause-going : goal.returns-clause-going
returns-clause-going g c =
    let stm = c.args.stm.now in
    asked_going (g.L.Law.lawful stm.law) (g.L.Law.may stm.law) stm c.args.flight.now.attempt c.stands.ensures.rests c.requires.going c.args.ask c.requires.body c.requires.able
    c.ask.new.self.attempt c.ask.ensures.asked c.ask.ensures.stands.rests

pub returns-clause-knows : goal.returns-clause-knows
returns-clause-knows g c =
    let stm = c.args.stm.now in
    knows_here (g.L.Law.lawful stm.law) (g.L.Law.may stm.law) (terms_in stm) c.ask.new.seat c.ask.new.self.attempt
    (asked_going (g.L.Law.lawful stm.law) (g.L.Law.may stm.law) stm c.args.flight.now.attempt c.stands.ensures.rests c.requires.going c.args.ask c.requires.body c.requires.able
    c.ask.new.self.attempt c.ask.ensures.asked c.ask.ensures.stands.rests) c.ask.ensures.stands

pub returns-clause-went : goal.returns-clause-went
returns-clause-went g c =
    let stm = c.args.stm.now in
    record {
      continues = c.ask.ensures.continues;
      turn = asked_turn (g.L.Law.lawful stm.law) (g.L.Law.may stm.law) stm c.args.flight.now.attempt c.stands.ensures.rests c.requires.going c.args.ask c.requires.body c.requires.able
          c.ask.new.self.attempt c.ask.ensures.asked c.ask.ensures.stands.rests;
    }

pub returns-clause-tells : goal.returns-clause-tells
returns-clause-tells g c =
    let stm = c.args.stm.now in
    asked_tells (g.L.Law.lawful stm.law) (g.L.Law.may stm.law) stm c.args.flight.now.attempt c.stands.ensures.rests c.requires.going c.args.ask c.requires.body c.requires.able
    c.ask.new.self.attempt c.ask.ensures.asked c.ask.ensures.stands.rests c.told.result c.told.ensures
