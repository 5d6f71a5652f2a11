use Rattle.std.proofs.Common.{◌≡◌, ℕ, List, codes, decimal, map, sym, ap, ◌∙◌, arith}
use Rattle.std.proofs.lemmas.Fmt.{decimal_digit}
use Rattle.text_lines.specs.Lines.{Row}
use Rattle.ledger_model.specs.declared.script.Operand.{Operand}
use Rattle.ledger_model.specs.declared.script.Statement.{Statement}
use Rattle.ledger_model.specs.declared.script.Statement.TheOpen as layer
use Rattle.ledger_model.specs.declared.script.Statement.TheVariants as made
use Rattle.ledger_model.specs.declared.script.Statement.TheFolds.{fold-roll-Statement}
use Rattle.script_text.specs.Printing.{statement_lines, statement_step}
use Rattle.script_text.proofs.worked.a_text_and_its_canonical_one.Goals as goal

read_lines : (r cell : ℕ) → statement_lines (made.Read r cell) ≡ statement_step (layer.Read r cell)
read_lines r cell = ap statement_lines (sym (made.rolls-Read r cell)) ∙ fold-roll-Statement (List Row) statement_step (layer.Read r cell)

write_lines : (cell : ℕ) (x : Operand) → statement_lines (made.Write cell x) ≡ statement_step (layer.Write cell x)
write_lines cell x = ap statement_lines (sym (made.rolls-Write cell x)) ∙ fold-roll-Statement (List Row) statement_step (layer.Write cell x)

print_lines : (x : Operand) → statement_lines (made.Print x) ≡ statement_step (layer.Print x)
print_lines x = ap statement_lines (sym (made.rolls-Print x)) ∙ fold-roll-Statement (List Row) statement_step (layer.Print x)

inner_lines : (r : ℕ) (block : List Statement) → statement_lines (made.Inner r block) ≡ statement_step (layer.Inner r (map statement_lines block))
inner_lines r block = ap statement_lines (sym (made.rolls-Inner r block)) ∙ fold-roll-Statement (List Row) statement_step (layer.Inner r block)

either_lines : (parts : List (List Statement)) → statement_lines (made.Either parts) ≡ statement_step (layer.Either (map (map statement_lines) parts))
either_lines parts = ap statement_lines (sym (made.rolls-Either parts)) ∙ fold-roll-Statement (List Row) statement_step (layer.Either parts)

zero_word : decimal 0 ≡ codes "0"
zero_word = decimal_digit 0 (omega arith)

one_word : decimal 1 ≡ codes "1"
one_word = decimal_digit 1 (omega arith)

two_word : decimal 2 ≡ codes "2"
two_word = decimal_digit 2 (omega arith)

seven_word : decimal 7 ≡ codes "7"
seven_word = decimal_digit 7 (omega arith)

pub returns-clause-canonical : goal.returns-clause-canonical
returns-clause-canonical c = simp (inner_lines, either_lines, read_lines, write_lines, print_lines, zero_word, one_word, two_word, seven_word)
