use Rattle.std.proofs.Common.{refl}
use Rattle.stm_core.proofs.Marked.{marked_while_kept}
use Rattle.stm_core.specs.Running.{InvariantAt, attempt_at}
use Rattle.txn_quick.proofs.writes.buffer.Goals as goal

pub returns-clause-wrote : goal.returns-clause-wrote
unfolding attempt_at
returns-clause-wrote c = rw (c.tell.ensures, c.put_first.ensures.writes) refl

pub returns-clause-sound : goal.returns-clause-sound
unfolding InvariantAt
returns-clause-sound c = record {
  fits = record { numbers = c.requires.free.fits.numbers; marks = marked_while_kept _ _ _ _ _ c.put_first.ensures.marks c.requires.free.fits.marks };
  runs = rw c.requires.free.nothing_due tt;
  holds = rw c.tell.ensures tt;
}
