use Rattle.trace_tests.specs.Jobs.{IsTraceable}
use Rattle.trace_tests.proofs.schedules.at_random.Given as goal

abbrev pub invariant-loop : goal.invariant-loop
invariant-loop g l = IsTraceable l.compared.job
