use Rattle.std.proofs.Common.{length}
use Rattle.std.proofs.lemmas.Bool.{lt-ltb}
use Rattle.stm_model.specs.Refusing.{deepest}
use Rattle.stm_model.proofs.AttemptLemmas.{enter-is-entered, get-noted, get-written, hook-is-hooked, keep-is-kept, later-is-delayed, set-is-written}
use Rattle.stm_model.proofs.attempt_laws.asks_are_calls_of_cells.Goals as goal

pub returns-clause-set : goal.returns-clause-set
returns-clause-set c = λ size t cell value waits going buffered. set-is-written size t cell value waits going buffered

pub returns-clause-enter : goal.returns-clause-enter
returns-clause-enter c = λ size t waits going room. enter-is-entered size t waits going (lt-ltb (length t.saved) deepest room)

pub returns-clause-keep : goal.returns-clause-keep
returns-clause-keep c = keep-is-kept

pub returns-clause-hook : goal.returns-clause-hook
returns-clause-hook c = hook-is-hooked

pub returns-clause-later : goal.returns-clause-later
returns-clause-later c = later-is-delayed

pub returns-clause-get_written : goal.returns-clause-get_written
returns-clause-get_written c = get-written

pub returns-clause-get_noted : goal.returns-clause-get_noted
returns-clause-get_noted c = get-noted
