use Rattle.meta_word.proofs.MetaLemmas.{meta_of-cleared, cleared-meta_word}
use Rattle.meta_word.proofs.laws.cleared_bits_leave_nobody.Goals as goal

pub returns-clause-fields : goal.returns-clause-fields
returns-clause-fields c = meta_of-cleared

pub returns-clause-packed : goal.returns-clause-packed
returns-clause-packed c = cleared-meta_word
