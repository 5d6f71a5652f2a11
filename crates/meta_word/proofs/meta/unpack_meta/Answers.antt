use Rattle.std.proofs.Common.{ap, ◌∙◌}
use Rattle.meta_word.specs.Meta.{meta_word}
use Rattle.meta_word.proofs.MetaLemmas.{masked_fields, meta_word-meta_of}
use Rattle.meta_word.proofs.meta.unpack_meta.Goals as goal

pub returns-clause-fields : goal.returns-clause-fields
returns-clause-fields c = rw c.from.ensures (masked_fields c.args.word)

pub returns-clause-comes_back : goal.returns-clause-comes_back
returns-clause-comes_back c = ap meta_word (returns-clause-fields c) ∙ meta_word-meta_of c.args.word c.ranges.word.fits
