use Rattle.std.proofs.Common.{◌∙◌}
use Rattle.ref_table.specs.Seats.{terms_in}
use Rattle.stm_core.specs.Running.{shown}
use Rattle.txn_run.proofs.Standing.{begun_stands}
use Rattle.txn_run.proofs.flights.Flight.begin.Goals as goal

pub invariant_of-result : goal.invariant_of-result
invariant_of-result g c =
    let stm = c.args.stm.now in
    let begun = c.begin-running.ensures.begun in
    rw (c.of.ensures, c.of-2.ensures) (record {
      own = begun.seat.same.table ∙ c.requires.own;
      sound = c.begin-running.ensures.sound;
      stands = begun_stands (g.L.Law.lawful stm.law) (g.L.Law.may stm.law) (terms_in stm) stm.settings c.args.seat.now c.begin-running.new.seat (shown c.begin-running.result) begun;
    })
