use Rattle.std.proofs.Common.{◌≡◌, ◌++◌, length}
use Rattle.text_lines.specs.Lines.{text_of}
use Rattle.script_text.specs.Printing.{steps_lines}
use Rattle.script_text.proofs.printing.put_steps.Given as goal

abbrev pub invariant-loop-rest : goal.invariant-loop-rest
invariant-loop-rest l = l.text.items ++ text_of (steps_lines l.rest) ≡ l.fn.text.items ++ text_of (steps_lines l.fn.steps)

abbrev pub decreases-loop-rest : goal.decreases-loop-rest
decreases-loop-rest l = length l.rest
