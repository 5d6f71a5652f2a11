use Rattle.std.proofs.Common.{◌∙◌}
use Rattle.text_lines.proofs.NumberLemmas.{digits_text, digits_give}
use Rattle.text_lines.proofs.read.value_of_digits.Goals as goal

pub returns-in-Ok : goal.returns-in-Ok
returns-in-Ok c = c.ok.ensures.value ∙ digits_give c.args.digits.now c.parse.result c.requires (rw c.in-Ok.ensures.cases.0 at c.parse.ensures.value.0)

pub returns-in-Err : goal.returns-in-Err
returns-in-Err c = absurd (c.in-Err.ensures.cases.0 (digits_text c.args.digits.now c.requires))
