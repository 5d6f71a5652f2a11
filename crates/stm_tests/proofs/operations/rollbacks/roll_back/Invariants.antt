use Rattle.op_commit.specs.Back.{IsAlong}
use Rattle.stm_tests.proofs.operations.rollbacks.roll_back.Given as goal

abbrev pub invariant-loop-access : goal.invariant-loop-access
invariant-loop-access g l = IsAlong l.op l.reads.notes
