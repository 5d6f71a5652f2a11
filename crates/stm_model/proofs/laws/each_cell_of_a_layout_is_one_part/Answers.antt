use Rattle.stm_model.proofs.LayoutLemmas.{each-cell, part-inside, parts-apart}
use Rattle.stm_model.proofs.laws.each_cell_of_a_layout_is_one_part.Goals as goal

pub returns-clause-inside : goal.returns-clause-inside
returns-clause-inside c = part-inside

pub returns-clause-apart : goal.returns-clause-apart
returns-clause-apart c = parts-apart

pub returns-clause-each : goal.returns-clause-each
returns-clause-each c = each-cell
