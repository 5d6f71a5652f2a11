use Rattle.std.proofs.Common.{ap, ◌∙◌}
use Rattle.meta_word.specs.Status.{status_of}
use Rattle.meta_word.proofs.StatusLemmas.{packed_fields, status_of-status_word}
use Rattle.meta_word.proofs.status.pack_status.Goals as goal

pub returns-clause-word : goal.returns-clause-word
returns-clause-word c = rw c.number_of_phase.ensures (packed_fields c.args.status c.requires)

pub returns-clause-comes_back : goal.returns-clause-comes_back
returns-clause-comes_back c = ap status_of (returns-clause-word c) ∙ status_of-status_word c.args.status c.requires
