use Rattle.std.proofs.Common.{◌∙◌, ap, sym}
use Rattle.stm_core.specs.Running.{shown}
use Rattle.txn_run.specs.Flights.{FlightState}
use Rattle.txn_run.specs.Told.{token_at}
use Rattle.txn_run.proofs.Answering.{ended_turns, token_next}
use Rattle.txn_run.proofs.flights.Flight.late.Goals as goal

pub returns-in-Ended : goal.returns-in-Ended
returns-in-Ended g c = sym (ended_turns c.self.inside.running c.in-Ended.field-0 c.in-Ended.is) ∙ ap (λ (flight : FlightState _). token_at flight.attempt.stage) c.self.view_is

pub returns-in_default : goal.returns-in_default
returns-in_default g c = c.token_of.ensures ∙ (token_next (shown c.self.inside.running) c.next.result c.self.invariant.stands.rests c.next.ensures.next
    ∙ ap (λ (flight : FlightState _). token_at flight.attempt.stage) c.self.view_is)
