use Rattle.std.proofs.Common.{refl}
use Rattle.opacity.proofs.world.World.entry.Goals as goal
use Rattle.stm_model.specs.World.{place_of}

pub returns-clause-entry : goal.returns-clause-entry
unfolding place_of
returns-clause-entry g c = rw (c.unpack_status.ensures.fields, c.word.ensures, c.in_ok-reads.ensures.ok, c.in_ok-writes.ensures.ok) refl
