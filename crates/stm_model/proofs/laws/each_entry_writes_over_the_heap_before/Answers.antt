use Rattle.std.proofs.Common.{add-one}
use Rattle.stm_model.proofs.HistoryLemmas.{AreWords-state, length-state, state-suc, state-zero}
use Rattle.stm_model.proofs.laws.each_entry_writes_over_the_heap_before.Goals as goal

pub returns-clause-first : goal.returns-clause-first
returns-clause-first c = state-zero

pub returns-clause-next : goal.returns-clause-next
returns-clause-next c = λ opening history n. rw add-one (state-suc opening history n)

pub returns-clause-cells : goal.returns-clause-cells
returns-clause-cells c = length-state

pub returns-clause-words : goal.returns-clause-words
returns-clause-words c = λ opening history n legal. AreWords-state opening history n legal.opening_words legal.entries
