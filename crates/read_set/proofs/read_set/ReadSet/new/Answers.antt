use Rattle.read_set.proofs.Apart.{IsIndexed-empty}
use Rattle.read_set.proofs.read_set.ReadSet.new.Goals as goal

pub invariant_of-result : goal.invariant_of-result
invariant_of-result c = IsIndexed-empty _ _ c.new-2.ensures.addresses c.new.ensures.items
