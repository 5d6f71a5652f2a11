use Rattle.std.proofs.Common.{refl, ◌∷◌, []}
use Rattle.meta_word.specs.declared.policy.Policy.TheVariants.{Look}
use Rattle.stm_model.specs.Rows.{skew_summed}
use Rattle.stm_model.proofs.RowsLemmas.{all_may, computes}
use Rattle.stm_model.proofs.rows.no_sum_is_skewed.Goals as goal

pub returns-clause-owners : goal.returns-clause-owners
unfolding computes
returns-clause-owners c = (refl, refl)

pub returns-clause-stale : goal.returns-clause-stale
unfolding computes
returns-clause-stale c = refl

pub returns-clause-marked : goal.returns-clause-marked
unfolding computes
returns-clause-marked c = refl

pub returns-clause-rolled_back : goal.returns-clause-rolled_back
unfolding computes
returns-clause-rolled_back c = (refl, refl)

pub returns-clause-summed : goal.returns-clause-summed
unfolding computes
returns-clause-summed c = refl

pub returns-clause-values : goal.returns-clause-values
unfolding computes
returns-clause-values c = (refl, refl)

pub returns-clause-over : goal.returns-clause-over
unfolding computes
returns-clause-over c = (refl, refl)

pub returns-clause-may : goal.returns-clause-may
unfolding computes
returns-clause-may c = (all_may (1 ∷ 1 ∷ []) (Look 0) skew_summed refl, refl)
