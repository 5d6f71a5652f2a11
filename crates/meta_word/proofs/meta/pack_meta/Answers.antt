use Rattle.meta_word.proofs.MetaLemmas.{packed_fields, meta_of-meta_word}
use Rattle.std.proofs.Common.{ap, ◌∙◌}
use Rattle.meta_word.specs.Meta.{meta_of}
use Rattle.meta_word.proofs.meta.pack_meta.Goals as goal

pub returns-clause-word : goal.returns-clause-word
returns-clause-word c = rw (c.from.ensures, c.from-2.ensures, c.from-3.ensures) (packed_fields c.args.meta c.requires)

pub returns-clause-comes_back : goal.returns-clause-comes_back
returns-clause-comes_back c = ap meta_of (returns-clause-word c) ∙ meta_of-meta_word c.args.meta c.requires
