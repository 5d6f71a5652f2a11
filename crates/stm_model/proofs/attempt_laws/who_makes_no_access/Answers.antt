use Rattle.stm_model.proofs.AttemptLemmas.{after-ended, next-none, none-next}
use Rattle.stm_model.proofs.attempt_laws.who_makes_no_access.Goals as goal

pub returns-clause-exactly : goal.returns-clause-exactly
returns-clause-exactly c = λ t. (next-none t, none-next t)

pub returns-clause-over : goal.returns-clause-over
returns-clause-over c = λ t answer ended. after-ended t t.stage answer ended
