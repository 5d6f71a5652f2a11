use Rattle.std.proofs.Common.{◌≡◌, ◌+◌, ◌*◌, ◌++◌, true, drop}
use denote.Param.Weighed.{most}
use Rattle.ledger_model.proofs.script.Statement.TheLaws.{the_size}
use Rattle.text_lines.specs.Lines.{text_of}
use Rattle.script_text.specs.Printing.{block_lines}
use Rattle.script_text.proofs.PrintLemmas.{parts_left}
use Rattle.script_text.proofs.printing.+print.Given as goal

abbrev pub invariant-put_block-loop-statement : goal.invariant-put_block-loop-statement
invariant-put_block-loop-statement l = l.text.items ++ text_of (block_lines (drop l.statement-index l.block)) ≡ l.fn.text.items ++ text_of (block_lines l.block)

abbrev pub invariant-put_parts-loop-part : goal.invariant-put_parts-loop-part
invariant-put_parts-loop-part l = l.text.items ++ text_of (parts_left l.first (drop l.part-index l.parts)) ≡ l.fn.text.items ++ text_of (parts_left true l.parts)

abbrev pub decreases-put_statement : goal.decreases-put_statement
decreases-put_statement l = 4 * the_size l.statement.now

abbrev pub decreases-put_block : goal.decreases-put_block
decreases-put_block l = 4 * most the_size l.block.now + 1

abbrev pub decreases-put_ended : goal.decreases-put_ended
decreases-put_ended l = 4 * most the_size l.block.now + 2

abbrev pub decreases-put_late : goal.decreases-put_late
decreases-put_late l = 4 * most the_size l.block.now + 3

abbrev pub decreases-put_parts : goal.decreases-put_parts
decreases-put_parts l = 4 * most (most the_size) l.parts.now + 2
