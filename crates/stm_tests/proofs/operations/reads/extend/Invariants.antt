use Rattle.op_read.specs.Extend.{IsAlong}
use Rattle.stm_tests.proofs.operations.reads.extend.Given as goal

abbrev pub invariant-loop-access : goal.invariant-loop-access
invariant-loop-access g l = IsAlong l.op l.reads.notes
