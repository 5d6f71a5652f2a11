use Rattle.std.proofs.Common.{◌≡◌, [], IsTrue}
use Rattle.stm_core.specs.Machine.{next_of}
use Rattle.stm_model.specs.World.{IsCaller}
use Rattle.world_run.specs.Simulation.{attempt_in, left_of, replies, terms_in}
use Rattle.world_run.specs.Going.{GoesOn}
use Rattle.world_run.proofs.simulation.Simulation.settle.Given as goal

abbrev pub invariant-loop-self : goal.invariant-loop-self
invariant-loop-self g l = record {
  caller : IsCaller (terms_in l.self) l.caller;
  goes : GoesOn g.L.Law.lawful g.L.Law.may l.fn.self l.caller [] l.self;
  stays : IsTrue (replies (next_of (attempt_in l.fn.self l.caller))) → l.self ≡ l.fn.self;
}

abbrev pub decreases-loop-self : goal.decreases-loop-self
decreases-loop-self g l = left_of l.self l.caller
