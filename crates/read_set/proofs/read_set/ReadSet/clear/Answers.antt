use Rattle.read_set.proofs.Apart.{IsIndexed-empty}
use Rattle.read_set.proofs.read_set.ReadSet.clear.Goals as goal

pub invariant_of-self : goal.invariant_of-self
invariant_of-self c = IsIndexed-empty _ _ c.truncate.ensures.addresses c.clear.ensures.items
