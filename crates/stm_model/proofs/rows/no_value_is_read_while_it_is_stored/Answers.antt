use Rattle.std.proofs.Common.{refl, ◌∷◌, []}
use Rattle.meta_word.specs.declared.policy.Policy.TheVariants.{Look}
use Rattle.stm_model.specs.Rows.{storing_read}
use Rattle.stm_model.proofs.RowsLemmas.{all_may, computes}
use Rattle.stm_model.proofs.rows.no_value_is_read_while_it_is_stored.Goals as goal

pub returns-clause-stored : goal.returns-clause-stored
unfolding computes
returns-clause-stored c = (refl, refl)

pub returns-clause-loaded : goal.returns-clause-loaded
unfolding computes
returns-clause-loaded c = refl

pub returns-clause-refused : goal.returns-clause-refused
unfolding computes
returns-clause-refused c = refl

pub returns-clause-told : goal.returns-clause-told
unfolding computes
returns-clause-told c = refl

pub returns-clause-rolled : goal.returns-clause-rolled
unfolding computes
returns-clause-rolled c = refl

pub returns-clause-read : goal.returns-clause-read
unfolding computes
returns-clause-read c = refl

pub returns-clause-ended : goal.returns-clause-ended
unfolding computes
returns-clause-ended c = refl

pub returns-clause-over : goal.returns-clause-over
unfolding computes
returns-clause-over c = (refl, refl)

pub returns-clause-may : goal.returns-clause-may
unfolding computes
returns-clause-may c = (all_may (1 ∷ 1 ∷ []) (Look 0) storing_read refl, refl)
