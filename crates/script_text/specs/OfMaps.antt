-- Private: the statements that work on maps and on their snapshots.
use Rattle.std.specs.Prelude.{Bool, true, false}
use Rattle.ledger_model.specs.declared.script.Statement.{Statement}
use Rattle.ledger_model.specs.declared.script.Statement.TheOpen.{Statement-F, Put, Del, Look, LookSlot, Snap, Share}
use Rattle.ledger_model.specs.declared.script.Statement.TheFolds.{fold-Statement}

abbrev pub of_maps_step : Statement-F Bool → Bool
of_maps_step (Put m x y) = true
of_maps_step (Del m x) = true
of_maps_step (Look r m x y) = true
of_maps_step (LookSlot r k x y) = true
of_maps_step (Snap k m) = true
of_maps_step (Share from into) = true
of_maps_step _ = false

abbrev pub is_of_maps : Statement → Bool
is_of_maps = fold-Statement Bool of_maps_step
