use Rattle.std.specs.Prelude.{◌≡◌}
use Rattle.bank.specs.Ready.{IsReady}
use Rattle.bank.proofs.worker.Worker.settle.Given as goal

abbrev pub invariant-loop : goal.invariant-loop
invariant-loop g l = record {
  ready : IsReady l.stm l.self;
  scripts : l.self.scripts ≡ l.initial.self.scripts;
}
