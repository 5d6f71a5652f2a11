use Rattle.std.proofs.Common.{◌∙◌, ap, sym}
use Rattle.stm_core.proofs.Shown.{shown_alike}
use Rattle.txn_run.specs.Flights.{FlightState}
use Rattle.txn_run.proofs.flights.Flight.into_running.Goals as goal

pub returns : goal.returns
returns g c = sym (shown_alike c.self.inside.running c.self.invariant.sound).notes ∙ ap (λ (flight : FlightState _). flight.attempt.notes) c.self.view_is
