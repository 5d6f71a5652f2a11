use Rattle.std.proofs.Common.{subst}
use Rattle.stm_core.specs.Running.{HasOpen}
use Rattle.stm_core.proofs.running.Running.ask_going.Goals as goal

pub keep-requires-clause-open : goal.keep-requires-clause-open
unfolding HasOpen
keep-requires-clause-open c = subst (λ ask. HasOpen ask c.args.self.now.levels) c.in-Keep.is c.requires.open

pub undo-requires-clause-open : goal.undo-requires-clause-open
unfolding HasOpen
undo-requires-clause-open c = subst (λ ask. HasOpen ask c.args.self.now.levels) c.in-Undo.is c.requires.open
