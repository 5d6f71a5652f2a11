use Rattle.std.proofs.Common.{refl, ◌∷◌, []}
use Rattle.meta_word.specs.declared.policy.Policy.TheVariants.{Look}
use Rattle.stm_model.specs.Rows.{passed_read}
use Rattle.stm_model.proofs.RowsLemmas.{all_may, computes}
use Rattle.stm_model.proofs.rows.an_extension_goes_on.Goals as goal

pub returns-clause-before : goal.returns-clause-before
unfolding computes
returns-clause-before c = refl

pub returns-clause-after : goal.returns-clause-after
unfolding computes
returns-clause-after c = refl

pub returns-clause-answered : goal.returns-clause-answered
unfolding computes
returns-clause-answered c = refl

pub returns-clause-read : goal.returns-clause-read
unfolding computes
returns-clause-read c = refl

pub returns-clause-ended : goal.returns-clause-ended
unfolding computes
returns-clause-ended c = refl

pub returns-clause-over : goal.returns-clause-over
unfolding computes
returns-clause-over c = (refl, refl)

pub returns-clause-may : goal.returns-clause-may
unfolding computes
returns-clause-may c = (all_may (1 ∷ 1 ∷ []) (Look 0) passed_read refl, refl)
