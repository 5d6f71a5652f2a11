use Rattle.stm_core.specs.Running.{InvariantAt}
use Rattle.stm_core.proofs.running.Running.take_read.Goals as goal

pub put_read-requires-clause-reads : goal.put_read-requires-clause-reads
unfolding InvariantAt
put_read-requires-clause-reads c = let made = c.requires.holds.0 in record {
  made_for = c.take.ensures.same _ made.made_for;
  room = rw c.take.ensures.cell made.room;
}
