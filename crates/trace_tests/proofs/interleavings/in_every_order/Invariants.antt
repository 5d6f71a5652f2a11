use Rattle.trace_tests.specs.Jobs.{IsTraceable}
use Rattle.trace_tests.proofs.interleavings.in_every_order.Given as goal

abbrev pub invariant-loop-mask : goal.invariant-loop-mask
invariant-loop-mask g l = IsTraceable l.compared.job
