use Rattle.stm_model.proofs.HandlerRunsLemmas.{undoes-word, undoes-access, undoes-begins, undoes-does, undoes-over, undone-whole}
use Rattle.stm_model.proofs.attempt_laws.a_level_is_undone_in_order.Goals as goal

pub returns-clause-begins : goal.returns-clause-begins
returns-clause-begins c = undoes-begins

pub returns-clause-access : goal.returns-clause-access
returns-clause-access c = undoes-access

pub returns-clause-does : goal.returns-clause-does
returns-clause-does c = undoes-does

pub returns-clause-over : goal.returns-clause-over
returns-clause-over c = undoes-over

pub returns-clause-whole : goal.returns-clause-whole
returns-clause-whole c = undone-whole

pub returns-clause-word : goal.returns-clause-word
returns-clause-word c = undoes-word
