use Rattle.meta_word.proofs.MetaLemmas.{meta_of-or_changing, meta_of-or_pending, or_changing-meta_word, or_pending-meta_word}
use Rattle.meta_word.proofs.laws.a_set_bit_is_a_set_field.Goals as goal

pub returns-clause-changing : goal.returns-clause-changing
returns-clause-changing c = meta_of-or_changing

pub returns-clause-pending : goal.returns-clause-pending
returns-clause-pending c = meta_of-or_pending

pub returns-clause-changing_packed : goal.returns-clause-changing_packed
returns-clause-changing_packed c = or_changing-meta_word

pub returns-clause-pending_packed : goal.returns-clause-pending_packed
returns-clause-pending_packed c = or_pending-meta_word
