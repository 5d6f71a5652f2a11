use Rattle.opacity.proofs.TableSteps.{table_stays}
use Rattle.opacity.proofs.words.a_table_stays_a_table.Goals as goal

pub returns : goal.returns
returns c = table_stays
