use Rattle.stm_model.proofs.AttemptLemmas.{abandon-refused, calls-refused, ends-late-refused, finish-refused, keep-refused, undo-refused}
use Rattle.stm_model.proofs.attempt_laws.who_was_refused_stays_so.Goals as goal

pub returns-clause-calls : goal.returns-clause-calls
returns-clause-calls c = λ size t cause ask is call. calls-refused t cause is ask call

pub returns-clause-keep : goal.returns-clause-keep
returns-clause-keep c = λ size t cause is. keep-refused t cause is size

pub returns-clause-undo : goal.returns-clause-undo
returns-clause-undo c = λ size t cause is. undo-refused t cause is size

pub returns-clause-finish : goal.returns-clause-finish
returns-clause-finish c = finish-refused

pub returns-clause-abandon : goal.returns-clause-abandon
returns-clause-abandon c = λ t cause other is. abandon-refused t cause is other

pub returns-clause-late : goal.returns-clause-late
returns-clause-late c = ends-late-refused
