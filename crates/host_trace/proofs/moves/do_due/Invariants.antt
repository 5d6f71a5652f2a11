use Rattle.std.proofs.Common.{◌≤◌}
use Rattle.stm_model.specs.World.{IsCaller}
use Rattle.ledger_model.specs.Traced.{due_done}
use Rattle.world_run.specs.Simulation.{attempt_in, left_of, terms_in}
use Rattle.host_trace.specs.Flights.{Follows, Leads}
use Rattle.host_trace.specs.Footings.{Stays}
use Rattle.host_trace.proofs.moves.do_due.Given as goal

abbrev pub invariant-loop-simulation : goal.invariant-loop-simulation
invariant-loop-simulation l = record {
  caller : IsCaller (terms_in l.simulation) l.caller;
  leads : Leads l.caller l.fn.simulation l.simulation (Follows l.caller l.fn.simulation l.fn.said) (Follows l.caller l.simulation l.said) (due_done l.caller) (due_done l.caller);
  stays : Stays (attempt_in l.fn.simulation l.caller) (attempt_in l.simulation l.caller);
  left : left_of l.simulation l.caller ≤ left_of l.fn.simulation l.caller;
}

abbrev pub decreases-loop-simulation : goal.decreases-loop-simulation
decreases-loop-simulation l = left_of l.simulation l.caller
