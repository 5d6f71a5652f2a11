use Rattle.std.proofs.Common.{refl}
use Rattle.meta_word.specs.Meta.{meta_of}
use Rattle.meta_word.specs.Status.{status_of}
use Rattle.meta_word.proofs.laws.words_begin_empty.Goals as goal

pub returns-clause-meta : goal.returns-clause-meta
unfolding meta_of
returns-clause-meta c = refl

pub returns-clause-status : goal.returns-clause-status
unfolding status_of
returns-clause-status c = refl
