use Rattle.std.proofs.Common.{[], refl, arith}
use Rattle.txn_run.specs.Facts.{witness_map}
use Rattle.txn_run.specs.Flights.{cells_in_stm}
use Rattle.txn_run.proofs.Resting.{rest_witness}
use Rattle.txn_run.proofs.runners.Runner.new.Goals as goal

pub invariant_of-result : goal.invariant_of-result
invariant_of-result g c =
    let stm = c.args.stm.now in
    record {
      here = refl;
      going = tt;
      witness = ∣ witness_map (g.L.Law.lawful stm.law) (g.L.HeapLaw.heaps stm.law) (cells_in_stm stm) [] (g.met.L.HeapLaw.heaps_of stm.law) (rest_witness (g.L.Law.lawful stm.law) (g.L.Law.may stm.law) stm c.args.seat.now c.requires.begins) ∣₁;
      words = λ k d below. absurd (omega (arith, below));
      answered = tt;
      deep = omega arith;
    }
