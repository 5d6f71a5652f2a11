use Rattle.std.proofs.Common.{take}
use Rattle.stm_model.specs.World.{IsCaller}
use Rattle.world_run.specs.Going.{GoesOn, Pauses}
use Rattle.world_run.specs.Simulation.{attempt_in, terms_in}
use Rattle.world_run.proofs.simulation.Simulation.ask_all.Given as goal

abbrev pub invariant-loop-ask : goal.invariant-loop-ask
invariant-loop-ask g l = record {
  caller : IsCaller (terms_in l.self) l.caller;
  pauses : Pauses (attempt_in l.self l.caller);
  goes : GoesOn g.L.Law.lawful g.L.Law.may l.fn.self l.caller (take l.ask-index l.asks) l.self;
}
