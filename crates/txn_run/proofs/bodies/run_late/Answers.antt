use Rattle.std.proofs.Common.{rules}
use Rattle.ref_table.specs.Seats.{terms_in}
use Rattle.txn_run.proofs.Standing.{here_so, knows_here, stands_here, went_so}
use Rattle.txn_run.proofs.bodies.run_late.Goals as goal

pub invariant_of-txn : goal.invariant_of-txn
invariant_of-txn g c =
    let stm = c.args.stm.now in
    let stands = stands_here g.L.Law.lawful g.L.Law.may stm c.args.seat.now c.args.flight.now c.requires.here c.stands.ensures in
    let knows = knows_here (g.L.Law.lawful stm.law) (g.L.Law.may stm.law) (terms_in stm) c.args.seat.now c.args.flight.now.attempt c.requires.going stands in
    record {
      here = c.requires.here;
      going = c.requires.going;
      witness = ∣ knows.witness ∣₁;
      words = knows.words;
      answered = knows.answered;
      deep = knows.deep;
    }

pub returns-clause-here : goal.returns-clause-here
returns-clause-here g c = here_so _ _ _ _ _ _ c.late-answer.new.cells.here c.late-answer.ensures.ran.goes.4 (search rules) (search rules)

pub returns-clause-went : goal.returns-clause-went
returns-clause-went g c = went_so _ _ _ _ _ _ _ _ _ c.late-answer.ensures.ran.goes.5 (search rules) (search rules) (search rules) (search rules)
