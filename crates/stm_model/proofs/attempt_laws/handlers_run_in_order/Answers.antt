use Rattle.stm_model.proofs.HandlerRunsLemmas.{ends-word, concluded-whole, ends-access, ends-concluded, ends-does, ends-over, ends-rolled, rolled-whole}
use Rattle.stm_model.proofs.attempt_laws.handlers_run_in_order.Goals as goal

pub returns-clause-concluded : goal.returns-clause-concluded
returns-clause-concluded c = ends-concluded

pub returns-clause-rolled_back : goal.returns-clause-rolled_back
returns-clause-rolled_back c = ends-rolled

pub returns-clause-access : goal.returns-clause-access
returns-clause-access c = ends-access

pub returns-clause-does : goal.returns-clause-does
returns-clause-does c = ends-does

pub returns-clause-over : goal.returns-clause-over
returns-clause-over c = ends-over

pub returns-clause-whole : goal.returns-clause-whole
returns-clause-whole c = concluded-whole

pub returns-clause-whole_rolled_back : goal.returns-clause-whole_rolled_back
returns-clause-whole_rolled_back c = rolled-whole

pub returns-clause-word : goal.returns-clause-word
returns-clause-word c = ends-word
