use Rattle.std.proofs.Common.{refl, sym}
use Rattle.stm_core.proofs.Shown.{makes_none_due, shown_alike}
use Rattle.stm_core.specs.Running.{due_in, shown}
use Rattle.stm_core.proofs.running.Running.access.Goals as goal

pub returns-then-has_due : goal.returns-then-has_due
returns-then-has_due c =
    let r = c.args.self.now in
    sym (makes_none_due (shown r) (due_in r.due r.handlers.hooks) (shown_alike r c.requires).due (c.if-has_due.ensures.some refl))
