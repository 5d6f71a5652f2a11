use Rattle.std.proofs.Common.{sym}
use Rattle.ledger_model.specs.declared.script.Statement.TheVariants as made
use Rattle.text_lines.specs.Lines.{words}
use Rattle.script_text.specs.Words.{operand_of, code_of}
use Rattle.script_text.proofs.ThreeWords.{three_refused}
use Rattle.script_text.proofs.line.statement_of.Goals as goal

pub returns-in-Err : goal.returns-in-Err
returns-in-Err c = rw c.in-Check.is (sym (three_refused operand_of operand_of code_of made.Check (words c.args.args.now) _ c.in-Err.reason c.in_ok-x-in-Check.ensures (rw (c.operand_of-in-Check.ensures, c.operand_of-in-Check-2.ensures, c.code_of.ensures) at (sym c.in-Err.ensures))))
