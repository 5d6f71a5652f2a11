use Rattle.txn_run.specs.Facts.{witness_map}
use Rattle.txn_run.specs.Flights.{cells_in_stm}
use Rattle.txn_run.proofs.Resting.{placed_here, rest_tells}
use Rattle.txn_run.proofs.runners.Runner.ask.Goals as goal

pub invariant_of-self-in-Some : goal.invariant_of-self-in-Some
invariant_of-self-in-Some g c =
    let stm = c.args.self.now.stm.now in
    let knows = c.ask_of.ensures.knows in
    record {
      here = placed_here stm c.ask_of.new.seat c.ask_of.new.flight c.ask_of.ensures.here;
      going = c.ask_of.ensures.going;
      witness = ∣ witness_map (g.L.Law.lawful stm.law) (g.L.HeapLaw.heaps stm.law) (cells_in_stm stm) c.ask_of.new.flight.attempt.notes (g.met.L.HeapLaw.heaps_of stm.law) knows.witness ∣₁;
      words = knows.words;
      answered = knows.answered;
      deep = knows.deep;
    }

pub returns-in-None-clause-tells : goal.returns-in-None-clause-tells
returns-in-None-clause-tells g c = rw c.in-None.is (rest_tells (g.L.Law.lawful c.args.self.now.stm.now.law) (cells_in_stm c.args.self.now.stm.now) c.args.ask c.requires.body)
