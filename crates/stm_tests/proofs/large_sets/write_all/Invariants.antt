use Rattle.stm_model.specs.declared.marks.WriteMark.{WriteMark}
use Rattle.write_buffer.specs.Buffer.{IsMark}
use Rattle.stm_tests.proofs.large_sets.write_all.Given as goal

abbrev pub invariant-loop-number : goal.invariant-loop-number
invariant-loop-number l = (mark : WriteMark) → IsMark l.initial.buffer mark → IsMark l.buffer mark
