use Rattle.std.proofs.Common.{refl, ◌∷◌, []}
use Rattle.meta_word.specs.declared.policy.Policy.TheVariants.{Look}
use Rattle.stm_model.specs.Rows.{lost_update_counted}
use Rattle.stm_model.proofs.RowsLemmas.{all_may, computes}
use Rattle.stm_model.proofs.rows.no_update_is_lost.Goals as goal

pub returns-clause-stale : goal.returns-clause-stale
unfolding computes
returns-clause-stale c = refl

pub returns-clause-rolled : goal.returns-clause-rolled
unfolding computes
returns-clause-rolled c = refl

pub returns-clause-history : goal.returns-clause-history
unfolding computes
returns-clause-history c = refl

pub returns-clause-value : goal.returns-clause-value
unfolding computes
returns-clause-value c = refl

pub returns-clause-over : goal.returns-clause-over
unfolding computes
returns-clause-over c = (refl, refl)

pub returns-clause-may : goal.returns-clause-may
unfolding computes
returns-clause-may c = (all_may (0 ∷ []) (Look 0) lost_update_counted refl, refl)
