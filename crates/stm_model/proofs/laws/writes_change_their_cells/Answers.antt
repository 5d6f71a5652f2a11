use Rattle.stm_model.proofs.HeapLemmas.{AreWords-over, length-over, over_found, over_other, writes_to-lookup}
use Rattle.stm_model.proofs.laws.writes_change_their_cells.Goals as goal

pub returns-clause-cells : goal.returns-clause-cells
returns-clause-cells c = length-over

pub returns-clause-words : goal.returns-clause-words
returns-clause-words c = AreWords-over

pub returns-clause-others : goal.returns-clause-others
returns-clause-others c = over_other

pub returns-clause-written : goal.returns-clause-written
returns-clause-written c = over_found

pub returns-clause-found : goal.returns-clause-found
returns-clause-found c = writes_to-lookup
