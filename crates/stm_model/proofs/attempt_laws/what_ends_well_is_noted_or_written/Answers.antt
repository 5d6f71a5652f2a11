use Rattle.stm_model.proofs.AttemptLemmas.{looked-noted, looked-told, owned-written}
use Rattle.stm_model.proofs.attempt_laws.what_ends_well_is_noted_or_written.Goals as goal

pub returns-clause-noted : goal.returns-clause-noted
returns-clause-noted c = λ size t cell left first value second. looked-noted size t cell value left first second

pub returns-clause-told : goal.returns-clause-told
returns-clause-told c = λ t cell left first value second. looked-told 0 t cell value left first second

pub returns-clause-written : goal.returns-clause-written
returns-clause-written c = λ size t cell value left tried first expected again found. owned-written size t cell value left first tried expected again found
