use Rattle.std.proofs.Common.{subst}
use Rattle.stm_core.proofs.Allowing.{promises}
use Rattle.stm_core.specs.Machine.{Machine, Promises}
use Rattle.stm_core.proofs.attempt.Attempt.next.Goals as goal

pub returns-clause-promises : goal.returns-clause-promises
returns-clause-promises c = subst (λ (m : Machine). Promises m.attempt c.next.result) c.self.view_is (promises c.self.inside.running c.next.result c.self.invariant c.next.ensures.next c.next.ensures.over)
