use Rattle.std.proofs.Common.{◌∙◌, ap, sym}
use Rattle.stm_core.specs.Running.{shown}
use Rattle.txn_run.specs.Flights.{FlightState, told_at}
use Rattle.txn_run.proofs.Answering.{ready_told, told_next}
use Rattle.txn_run.proofs.flights.Flight.told.Goals as goal

pub returns-in-Ready : goal.returns-in-Ready
returns-in-Ready g c = sym (ready_told c.self.inside.running c.in-Ready.told c.in-Ready.is) ∙ ap (λ (flight : FlightState _). told_at flight.attempt.stage) c.self.view_is

pub returns-in_default : goal.returns-in_default
returns-in_default g c = c.answer_of.ensures ∙ (told_next (shown c.self.inside.running) c.next.result c.self.invariant.stands.rests c.next.ensures.next
    ∙ ap (λ (flight : FlightState _). told_at flight.attempt.stage) c.self.view_is)
