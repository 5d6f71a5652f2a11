use Rattle.std.proofs.Common.{length, sym, ap, ◌∙◌}
use Rattle.stm_core.proofs.Marked.{as_many}
use Rattle.stm_core.proofs.Shown.{shown_alike}
use Rattle.stm_core.specs.Machine.{Machine}
use Rattle.stm_core.specs.Past.{books_in}
use Rattle.stm_core.proofs.attempt.Attempt.depth.Goals as goal

pub returns-clause-count : goal.returns-clause-count
returns-clause-count c =
    let r = c.self.inside.running in
    c.depth.ensures.count ∙ as_many r.footprint.writes r.handlers r.levels (books_in r.past) c.self.invariant.fits.marks
    ∙ sym (ap length (shown_alike r c.self.invariant).saved) ∙ ap (λ (m : Machine). length m.attempt.saved) c.self.view_is
