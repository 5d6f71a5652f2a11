use Rattle.std.proofs.Common.{add-one}
use Rattle.stm_model.proofs.HistoryLemmas.{IsLegal-push, last_push, state_push}
use Rattle.stm_model.proofs.laws.a_new_entry_comes_last.Goals as goal

pub returns-clause-heap : goal.returns-clause-heap
returns-clause-heap c = λ opening history entry. rw add-one (state_push opening history entry)

pub returns-clause-writer : goal.returns-clause-writer
returns-clause-writer c = λ history entry address. rw add-one (last_push history entry address)

pub returns-clause-legal : goal.returns-clause-legal
returns-clause-legal c = IsLegal-push
