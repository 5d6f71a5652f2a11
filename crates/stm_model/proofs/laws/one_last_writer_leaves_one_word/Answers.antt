use Rattle.stm_model.proofs.HistoryLemmas.{Agrees-from_current, IsCurrent-moved, same_from_last}
use Rattle.stm_model.proofs.laws.one_last_writer_leaves_one_word.Goals as goal

pub returns-clause-cell : goal.returns-clause-cell
returns-clause-cell c = same_from_last

pub returns-clause-note : goal.returns-clause-note
returns-clause-note c = IsCurrent-moved

pub returns-clause-agrees : goal.returns-clause-agrees
returns-clause-agrees c = Agrees-from_current
