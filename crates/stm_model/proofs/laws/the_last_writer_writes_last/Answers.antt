use Rattle.stm_model.proofs.HistoryLemmas.{last_below, last_within, last_writes, none_after_last}
use Rattle.stm_model.proofs.laws.the_last_writer_writes_last.Goals as goal

pub returns-clause-bound : goal.returns-clause-bound
returns-clause-bound c = last_below

pub returns-clause-within : goal.returns-clause-within
returns-clause-within c = last_within

pub returns-clause-writes : goal.returns-clause-writes
returns-clause-writes c = last_writes

pub returns-clause-no_later : goal.returns-clause-no_later
returns-clause-no_later c = none_after_last
