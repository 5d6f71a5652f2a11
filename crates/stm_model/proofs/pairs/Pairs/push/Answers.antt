use Rattle.stm_model.proofs.Ascending.{KeysAscend-push}
use Rattle.stm_model.proofs.pairs.Pairs.push.Goals as goal

pub invariant_of-self-2 : goal.invariant_of-self-2
invariant_of-self-2 c = rw c.in_ok-push.ensures.items (KeysAscend-push _ c.args.entry c.self.invariant (rw c.self.view_is c.requires))
