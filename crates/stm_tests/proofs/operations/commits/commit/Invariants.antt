use Rattle.op_commit.specs.Commit.{IsAlong}
use Rattle.stm_tests.proofs.operations.commits.commit.Given as goal

abbrev pub invariant-loop-access : goal.invariant-loop-access
invariant-loop-access g l = IsAlong l.op l.reads.notes
