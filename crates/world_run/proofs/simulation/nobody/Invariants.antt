use Rattle.std.proofs.Common.{◌≡◌, ℕ, None, get_or, length}
use Rattle.world_run.proofs.simulation.nobody.Given as goal

abbrev pub invariant-loop : goal.invariant-loop
invariant-loop l = record { size : length l.machines.items ≡ l.counter; each : (index : ℕ) → get_or l.machines.items index None ≡ None }
