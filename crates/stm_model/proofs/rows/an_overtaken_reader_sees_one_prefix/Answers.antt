use Rattle.std.proofs.Common.{refl, ◌∷◌, []}
use Rattle.meta_word.specs.declared.policy.Policy.TheVariants.{Look}
use Rattle.stm_model.specs.Rows.{overtaken_read}
use Rattle.stm_model.proofs.RowsLemmas.{all_may, computes}
use Rattle.stm_model.proofs.rows.an_overtaken_reader_sees_one_prefix.Goals as goal

pub returns-clause-committed : goal.returns-clause-committed
unfolding computes
returns-clause-committed c = (refl, refl, refl)

pub returns-clause-stale : goal.returns-clause-stale
unfolding computes
returns-clause-stale c = refl

pub returns-clause-told : goal.returns-clause-told
unfolding computes
returns-clause-told c = refl

pub returns-clause-rolled : goal.returns-clause-rolled
unfolding computes
returns-clause-rolled c = refl

pub returns-clause-read : goal.returns-clause-read
unfolding computes
returns-clause-read c = refl

pub returns-clause-ended : goal.returns-clause-ended
unfolding computes
returns-clause-ended c = refl

pub returns-clause-over : goal.returns-clause-over
unfolding computes
returns-clause-over c = (refl, refl)

pub returns-clause-may : goal.returns-clause-may
unfolding computes
returns-clause-may c = (all_may (1 ∷ 1 ∷ []) (Look 0) overtaken_read refl, refl)
