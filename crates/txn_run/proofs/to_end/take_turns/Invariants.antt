use Rattle.std.proofs.Common.{◌≡◌, ◌↔◌, ℕ, None}
use Rattle.stm_model.specs.Attempt.{cause_at}
use Rattle.txn_drive.specs.Going.{Continues}
use Rattle.txn_drive.specs.Moment.{moment}
use Rattle.txn_run.specs.Flights.{IsHere, cells_in_stm}
use Rattle.txn_run.specs.Turns.{Turning, turns_left}
use Rattle.txn_run.proofs.to_end.take_turns.Given as goal

abbrev pub invariant-loop-token : goal.invariant-loop-token
invariant-loop-token g l =
    let stm = l.fn.stm in
    let first = l.fn.flight.attempt in record {
      here : IsHere stm l.seat l.flight;
      continues : Continues (moment l.fn.seat first (g.H.Hooks.runs l.fn.hooks) (g.R.Bell.rings l.fn.bell)) (moment l.seat l.flight.attempt (g.H.Hooks.runs l.hooks) (g.R.Bell.rings l.bell));
      turning : Turning (cause_at first.stage ≡ None) g.B.Body.late_means g.B.Body.late_leaves (g.L.Law.lawful stm.law) (g.L.Law.may stm.law) (cells_in_stm stm) l.fn.body first.notes first.now l.flight.attempt l.body;
      fits : (law : _) (size : ℕ) → g.B.Body.fits l.fn.body law size ↔ g.B.Body.fits l.body law size;
    }

abbrev pub decreases-loop-token : goal.decreases-loop-token
decreases-loop-token g l = turns_left l.flight.attempt.stage l.flight.attempt.turn
