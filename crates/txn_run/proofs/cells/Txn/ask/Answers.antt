use Rattle.ref_table.specs.Seats.{terms_in}
use Rattle.txn_run.specs.Facts.{witness_map}
use Rattle.txn_run.specs.Flights.{cells_in_stm}
use Rattle.txn_run.proofs.Standing.{asked_going, asked_tells, asked_turn, knows_here, may_be_asked}
use Rattle.txn_run.proofs.cells.Txn.ask.Goals as goal

pub ask-requires-clause-asks : goal.ask-requires-clause-asks
ask-requires-clause-asks g c =
    let self = c.args.self.now in
    may_be_asked (g.L.Law.lawful self.stm.now.law) (g.L.Law.may self.stm.now.law) self.stm.now self.flight.now.attempt c.stands.ensures.rests self.going c.args.ask c.requires.body c.requires.able

pub invariant_of-self : goal.invariant_of-self
invariant_of-self g c =
    let self = c.args.self.now in
    let stm = self.stm.now in
    let going = asked_going (g.L.Law.lawful stm.law) (g.L.Law.may stm.law) stm self.flight.now.attempt c.stands.ensures.rests self.going c.args.ask c.requires.body c.requires.able
    c.ask.new.self.attempt c.ask.ensures.asked c.ask.ensures.stands.rests in
    let knows = knows_here (g.L.Law.lawful stm.law) (g.L.Law.may stm.law) (terms_in stm) c.ask.new.seat c.ask.new.self.attempt going c.ask.ensures.stands in
    record {
      here = c.ask.ensures.here;
      going = going;
      witness = ∣ witness_map (g.L.Law.lawful stm.law) (g.L.HeapLaw.heaps stm.law) (cells_in_stm stm) c.ask.new.self.attempt.notes (g.met.L.HeapLaw.heaps_of stm.law) knows.witness ∣₁;
      words = knows.words;
      answered = knows.answered;
      deep = knows.deep;
    }

pub returns-clause-went : goal.returns-clause-went
returns-clause-went g c =
    let self = c.args.self.now in
    record {
      continues = c.ask.ensures.continues;
      turn = asked_turn (g.L.Law.lawful self.stm.now.law) (g.L.Law.may self.stm.now.law) self.stm.now self.flight.now.attempt c.stands.ensures.rests self.going c.args.ask c.requires.body c.requires.able
          c.ask.new.self.attempt c.ask.ensures.asked c.ask.ensures.stands.rests;
    }

pub returns-clause-tells : goal.returns-clause-tells
returns-clause-tells g c =
    let self = c.args.self.now in
    asked_tells (g.L.Law.lawful self.stm.now.law) (g.L.Law.may self.stm.now.law) self.stm.now self.flight.now.attempt c.stands.ensures.rests self.going c.args.ask c.requires.body c.requires.able
    c.ask.new.self.attempt c.ask.ensures.asked c.ask.ensures.stands.rests c.told.result c.told.ensures
