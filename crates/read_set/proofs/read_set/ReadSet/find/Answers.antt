use Rattle.std.proofs.Common.{ap, ◌∙◌}
use Rattle.stm_model.specs.After.{note_of}
use Rattle.read_set.specs.Reads.{Reads}
use Rattle.read_set.proofs.Among.{note_cases}
use Rattle.read_set.proofs.read_set.ReadSet.find.Goals as goal

pub returns-then-len-gt-SMALL-clause-cases : goal.returns-then-len-gt-SMALL-clause-cases
returns-then-len-gt-SMALL-clause-cases c =
    note_cases _ c.args.addr c.find_by_index.result
    (c.find_by_index.ensures ∙ ap (λ notes. note_of notes c.args.addr.0) c.as_slice.ensures.value ∙ ap (λ (r : Reads). note_of r.notes c.args.addr.0) c.self.view_is)

pub returns-else-len-gt-SMALL-clause-cases : goal.returns-else-len-gt-SMALL-clause-cases
returns-else-len-gt-SMALL-clause-cases c =
    note_cases _ c.args.addr c.find_along.result
    (c.find_along.ensures ∙ ap (λ notes. note_of notes c.args.addr.0) c.as_slice-else-len-gt-SMALL.ensures.value ∙ ap (λ (r : Reads). note_of r.notes c.args.addr.0) c.self.view_is)
