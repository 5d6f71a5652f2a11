use Rattle.op_commit.specs.Register.{IsAlong}
use Rattle.stm_tests.proofs.operations.waits.watch.Given as goal

abbrev pub invariant-loop-access : goal.invariant-loop-access
invariant-loop-access g l = IsAlong l.op l.reads.notes
