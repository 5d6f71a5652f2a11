use Rattle.stm_core.specs.Running.{InvariantAt}
use Rattle.stm_core.proofs.running.Running.take_acquire.Goals as goal

pub put_acquire-requires-clause-acquires : goal.put_acquire-requires-clause-acquires
unfolding InvariantAt
put_acquire-requires-clause-acquires c = let made = c.requires.holds.0 in record {
  made_for = c.take.ensures.same _ made.made_for;
  within = c.take.ensures.within;
  unwritten = rw c.take.ensures.cell made.unwritten;
  room = made.room;
}
