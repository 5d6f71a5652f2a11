use Rattle.std.proofs.Common.{refl, ◌∷◌, []}
use Rattle.meta_word.specs.declared.policy.Policy.TheVariants.{Look}
use Rattle.stm_model.specs.Rows.{between_read}
use Rattle.stm_model.proofs.RowsLemmas.{all_may, computes}
use Rattle.stm_model.proofs.rows.no_half_stored_heap_is_read.Goals as goal

pub returns-clause-decided : goal.returns-clause-decided
unfolding computes
returns-clause-decided c = (refl, refl)

pub returns-clause-values : goal.returns-clause-values
unfolding computes
returns-clause-values c = (refl, refl)

pub returns-clause-refused : goal.returns-clause-refused
unfolding computes
returns-clause-refused c = refl

pub returns-clause-rolled : goal.returns-clause-rolled
unfolding computes
returns-clause-rolled c = refl

pub returns-clause-read : goal.returns-clause-read
unfolding computes
returns-clause-read c = refl

pub returns-clause-ended : goal.returns-clause-ended
unfolding computes
returns-clause-ended c = refl

pub returns-clause-over : goal.returns-clause-over
unfolding computes
returns-clause-over c = (refl, refl)

pub returns-clause-may : goal.returns-clause-may
unfolding computes
returns-clause-may c = (all_may (1 ∷ 1 ∷ []) (Look 0) between_read refl, refl)
