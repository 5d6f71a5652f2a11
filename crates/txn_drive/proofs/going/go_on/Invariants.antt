use Rattle.std.proofs.Common.{◌≡◌, []}
use Rattle.ref_table.specs.Seats.{terms_in}
use Rattle.stm_core.specs.Running.{IsSound, left_in, shown}
use Rattle.stm_model.specs.World.{cells_in}
use Rattle.txn_drive.specs.Going.{Goes}
use Rattle.txn_drive.specs.Moment.{moment}
use Rattle.txn_drive.specs.Paying.{Pays}
use Rattle.txn_drive.specs.Standing.{IsOn}
use Rattle.txn_drive.proofs.going.go_on.Given as goal

abbrev pub invariant-loop-access : goal.invariant-loop-access
invariant-loop-access g l =
    let stm = l.fn.stm in
    let lawful = g.L.Law.lawful stm.law in
    let may = g.L.Law.may stm.law in record {
      own : l.seat.table ≡ stm.table;
      sound : IsSound l.running;
      on : IsOn lawful may (terms_in stm) l.seat (shown l.running);
      goes : Goes (moment l.fn.seat (shown l.fn.running) (g.H.Hooks.runs l.fn.hooks) (g.R.Bell.rings l.fn.bell)) (moment l.seat (shown l.running) (g.H.Hooks.runs l.hooks) (g.R.Bell.rings l.bell));
      nothing_due : (shown l.running).due ≡ [];
      pays : Pays lawful may (cells_in (terms_in stm)) (shown l.running);
    }

abbrev pub decreases-loop-access : goal.decreases-loop-access
decreases-loop-access g l = left_in l.running
