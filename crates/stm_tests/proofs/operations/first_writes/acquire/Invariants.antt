use Rattle.op_commit.specs.Acquire.{IsWithin}
use Rattle.stm_tests.proofs.operations.first_writes.acquire.Given as goal

abbrev pub invariant-loop-access : goal.invariant-loop-access
invariant-loop-access g l = IsWithin l.op
