use Rattle.std.proofs.Common.{◌≡◌, ◌++◌, drop, map}
use Rattle.text_lines.specs.Lines.{spaced}
use Rattle.script_text.specs.Printing.{operand_word}
use Rattle.script_text.proofs.printing.put_operands.Given as goal

abbrev pub invariant-loop-operand : goal.invariant-loop-operand
invariant-loop-operand l = l.text.items ++ spaced (map operand_word (drop l.operand-index l.operands)) ≡ l.fn.text.items ++ spaced (map operand_word l.operands)
