use Rattle.stm_model.proofs.HistoryLemmas.{IsLegal-front, last-append, state-append}
use Rattle.stm_model.proofs.laws.the_past_stays.Goals as goal

pub returns-clause-heap : goal.returns-clause-heap
returns-clause-heap c = state-append

pub returns-clause-writer : goal.returns-clause-writer
returns-clause-writer c = last-append

pub returns-clause-legal : goal.returns-clause-legal
returns-clause-legal c = IsLegal-front
