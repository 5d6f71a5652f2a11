use Rattle.std.proofs.Common.{sym}
use Rattle.ledger_model.specs.declared.script.Statement.TheVariants as made
use Rattle.text_lines.specs.Lines.{words}
use Rattle.script_text.specs.Words.{below, operand_of}
use Rattle.script_text.proofs.ThreeWords.{three_refused}
use Rattle.script_text.proofs.line.statement_on.Goals as goal

pub returns-in-Err : goal.returns-in-Err
returns-in-Err c = rw c.in-Move.is (sym (three_refused (below c.args.refs) (below c.args.refs) operand_of made.Move (words c.args.args.now) _ c.in-Err.reason c.in_ok-a-in-Move.ensures (rw (c.below-in-Move.ensures, c.below-in-Move-2.ensures, c.operand_of-in-Move.ensures) at (sym c.in-Err.ensures))))
