use Rattle.std.proofs.Common.{◌∙◌, ap, sym, subst}
use Rattle.stm_core.specs.Running.{shown}
use Rattle.stm_model.specs.Attempt.{Attempt}
use Rattle.txn_drive.specs.Standing.{IsOver}
use Rattle.txn_run.specs.Flights.{FlightState}
use Rattle.txn_run.proofs.Answering.{ended_so, ending_next, has_ended}
use Rattle.txn_run.proofs.flights.Flight.ending.Goals as goal

pub unreachable-requires : goal.unreachable-requires
unreachable-requires g c =
    let was = ap (λ (flight : FlightState _). flight.attempt) c.self.view_is in
    has_ended (shown c.self.inside.running) c.next.result (subst IsOver (sym was) c.requires) c.next.ensures.next (sym c.ending_of.ensures ∙ c.in-None.is)

pub returns : goal.returns
returns g c =
    let was = ap (λ (flight : FlightState _). flight.attempt) c.self.view_is in
    ap (λ (a : Attempt). a.ending) (sym was) ∙ (sym (ending_next (shown c.self.inside.running) c.next.result (subst IsOver (sym was) c.requires) c.next.ensures.next) ∙ (sym c.ending_of.ensures ∙ c.in-Some.is))

pub returns-in-Ended : goal.returns-in-Ended
returns-in-Ended g c = ap (λ (flight : FlightState _). flight.attempt.ending) (sym c.self.view_is) ∙ ended_so c.self.inside.running c.in-Ended.ending c.in-Ended.is
