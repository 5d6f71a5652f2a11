use Rattle.std.proofs.Common.{rules, refl}
use Rattle.ref_table.specs.Seats.{terms_in}
use Rattle.txn_drive.proofs.Onward.{continues_self}
use Rattle.txn_run.specs.Facts.{witness_map}
use Rattle.txn_run.specs.Flights.{cells_in_stm}
use Rattle.txn_run.proofs.Lending.{begins_with, fresh_begun}
use Rattle.txn_run.proofs.Resting.{begun_fresh, begun_going, begun_knows, placed_here}
use Rattle.txn_run.proofs.runners.RunnerRuns.begin.Goals as goal

pub invariant_of-self-2 : goal.invariant_of-self-2
invariant_of-self-2 g c =
    let stm = c.args.self.now.stm.now in
    let lawful = g.L.Law.lawful stm.law in
    let may = g.L.Law.may stm.law in
    let t = c.begin-flight.result.attempt in
    let knows = begun_knows lawful may (terms_in stm) stm.settings c.lend-lists.new.self c.begin-flight.new.seat t c.begin-flight.ensures.begun in
    rw c.put.ensures (record {
      here = placed_here stm c.begin-flight.new.seat c.begin-flight.result c.begin-flight.ensures.here;
      going = begun_going lawful may (terms_in stm) stm.settings c.lend-lists.new.self c.begin-flight.new.seat t c.begin-flight.ensures.begun;
      witness = ∣ witness_map lawful (g.L.HeapLaw.heaps stm.law) (cells_in_stm stm) t.notes (g.met.L.HeapLaw.heaps_of stm.law) knows.witness ∣₁;
      words = knows.words;
      answered = knows.answered;
      deep = knows.deep;
    })

pub returns : goal.returns
returns g c =
    let stm = c.args.self.now.stm.now in
    let lawful = g.L.Law.lawful stm.law in
    let may = g.L.Law.may stm.law in
    let t = c.begin-flight.result.attempt in
    let begun = c.begin-flight.ensures.begun in
    rw c.put.ensures (record {
      begins = (
        (
          refl,
          refl,
          refl,
          record {
            lent = c.lend-lists.new.self;
            same = c.lend-lists.ensures.same;
            able = begins_with lawful may stm c.args.self.now.seat.now c.lend-lists.new.self c.lend-lists.ensures.same c.lend-lists.ensures.empty c.requires.rests.1;
            more = search rules;
            start = c.begin-flight.new.seat;
            first = t;
            begun = begun;
            continues = continues_self _;
            turn = (fresh_begun lawful may (terms_in stm) stm.settings c.lend-lists.new.self c.begin-flight.new.seat t begun).turn;
          },
        ),
        begun_fresh lawful may (terms_in stm) stm.settings c.lend-lists.new.self c.begin-flight.new.seat t begun (cells_in_stm stm),
      );
    })
