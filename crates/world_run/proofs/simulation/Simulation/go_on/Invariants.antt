use Rattle.std.proofs.Common.{[], IsTrue}
use Rattle.stm_model.specs.World.{IsCaller}
use Rattle.world_run.specs.Going.{GoesOn}
use Rattle.world_run.specs.Simulation.{attempt_in, replies, terms_in}
use Rattle.stm_core.specs.Machine.{next_of}
use Rattle.world_run.proofs.Driven.{bodies_left}
use Rattle.world_run.proofs.simulation.Simulation.go_on.Given as goal

abbrev pub invariant-loop-self : goal.invariant-loop-self
invariant-loop-self g l = record {
  caller : IsCaller (terms_in l.self) l.caller;
  goes : GoesOn g.L.Law.lawful g.L.Law.may l.fn.self l.caller [] l.self;
  replies : IsTrue (replies (next_of (attempt_in l.self l.caller)));
}

abbrev pub decreases-loop-self : goal.decreases-loop-self
decreases-loop-self g l = bodies_left (attempt_in l.self l.caller)
