use Rattle.std.proofs.Common.{◌≡◌, length}
use Rattle.stm_core.specs.Running.{IsSound, left_in, shown}
use Rattle.txn_drive.specs.Stepping.{Settles}
use Rattle.txn_drive.proofs.due.settle.Given as goal

abbrev pub invariant-loop-next : goal.invariant-loop-next
invariant-loop-next g l = record {
  settles : Settles (shown l.fn.running) (shown l.running) (g.H.Hooks.runs l.fn.hooks) (g.H.Hooks.runs l.hooks) (g.R.Bell.rings l.fn.bell) (g.R.Bell.rings l.bell);
  sound : IsSound l.running;
  left : left_in l.running ≡ left_in l.fn.running;
}

abbrev pub decreases-loop-next : goal.decreases-loop-next
decreases-loop-next g l = length (shown l.running).due
