use Rattle.std.proofs.Common.{◌≤◌}
use Rattle.stm_model.specs.World.{IsCaller}
use Rattle.ledger_model.specs.Traced.{speaks}
use Rattle.script_cursor.specs.Cursors.{talk_of}
use Rattle.world_run.specs.Simulation.{terms_in}
use Rattle.host_trace.specs.Flights.{Follows, Hearing, Leads, ahead}
use Rattle.host_trace.proofs.flight.Flight.speak_on.Given as goal

abbrev pub invariant-loop : goal.invariant-loop
invariant-loop l = record {
  caller : IsCaller (terms_in l.simulation) l.caller;
  hearing : Hearing l.caller l.simulation l.self;
  leads : Leads l.caller l.fn.simulation l.simulation (Follows l.caller l.fn.simulation l.fn.self.said) (Follows l.caller l.simulation l.self.said) (speaks l.caller (talk_of l.fn.self.cursor)) (speaks l.caller (talk_of l.self.cursor));
  no_more : ahead l.self ≤ ahead l.fn.self;
}

abbrev pub decreases-loop : goal.decreases-loop
decreases-loop l = ahead l.self
