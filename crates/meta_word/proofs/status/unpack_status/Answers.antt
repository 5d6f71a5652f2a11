use Rattle.std.proofs.Common.{ap, ◌∙◌}
use Rattle.meta_word.specs.Status.{status_word}
use Rattle.meta_word.proofs.StatusLemmas.{masked_fields, status_word-status_of}
use Rattle.meta_word.proofs.status.unpack_status.Goals as goal

pub returns-clause-fields : goal.returns-clause-fields
returns-clause-fields c = rw c.phase_of_number.ensures (masked_fields c.args.word)

pub returns-clause-comes_back : goal.returns-clause-comes_back
returns-clause-comes_back c = ap status_word (returns-clause-fields c) ∙ status_word-status_of c.args.word c.ranges.word.fits
