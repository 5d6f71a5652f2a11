use Rattle.write_buffer.proofs.Indexed.{IsIndexed_empty}
use Rattle.write_buffer.proofs.buffer.WriteBuffer.new.Goals as goal

pub invariant_of-result : goal.invariant_of-result
invariant_of-result c = IsIndexed_empty _ _ c.new-3.ensures.addresses c.new.ensures.items
