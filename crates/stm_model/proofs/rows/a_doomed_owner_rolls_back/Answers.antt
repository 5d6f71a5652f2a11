use Rattle.std.proofs.Common.{refl, ◌∷◌, []}
use Rattle.meta_word.specs.declared.policy.Policy.TheVariants.{Doom}
use Rattle.stm_model.specs.Rows.{doom_written}
use Rattle.stm_model.proofs.RowsLemmas.{all_may, computes}
use Rattle.stm_model.proofs.rows.a_doomed_owner_rolls_back.Goals as goal

pub returns-clause-doomed : goal.returns-clause-doomed
unfolding computes
returns-clause-doomed c = refl

pub returns-clause-refused : goal.returns-clause-refused
unfolding computes
returns-clause-refused c = refl

pub returns-clause-found : goal.returns-clause-found
unfolding computes
returns-clause-found c = refl

pub returns-clause-told : goal.returns-clause-told
unfolding computes
returns-clause-told c = refl

pub returns-clause-rolled_back : goal.returns-clause-rolled_back
unfolding computes
returns-clause-rolled_back c = refl

pub returns-clause-rolled : goal.returns-clause-rolled
unfolding computes
returns-clause-rolled c = refl

pub returns-clause-history : goal.returns-clause-history
unfolding computes
returns-clause-history c = refl

pub returns-clause-values : goal.returns-clause-values
unfolding computes
returns-clause-values c = (refl, refl)

pub returns-clause-over : goal.returns-clause-over
unfolding computes
returns-clause-over c = (refl, refl)

pub returns-clause-may : goal.returns-clause-may
unfolding computes
returns-clause-may c = (all_may (0 ∷ 3 ∷ []) (Doom 0) doom_written refl, refl)
