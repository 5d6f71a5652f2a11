use Rattle.write_buffer.proofs.Indexed.{IsIndexed_empty}
use Rattle.write_buffer.proofs.buffer.WriteBuffer.clear.Goals as goal

pub invariant_of-self : goal.invariant_of-self
invariant_of-self c = IsIndexed_empty _ _ c.truncate.ensures.addresses c.clear.ensures.items
