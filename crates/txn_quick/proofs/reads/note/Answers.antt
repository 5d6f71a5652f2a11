use Rattle.std.proofs.Common.{refl}
use Rattle.stm_core.specs.Running.{InvariantAt, attempt_at}
use Rattle.txn_quick.proofs.reads.note.Goals as goal

pub returns-clause-got : goal.returns-clause-got
unfolding attempt_at
returns-clause-got c = rw (c.tell.ensures, c.add_spare.ensures.notes) refl

pub returns-clause-sound : goal.returns-clause-sound
unfolding InvariantAt
returns-clause-sound c = record { fits = c.requires.free.fits; runs = rw c.requires.free.nothing_due tt; holds = rw c.tell.ensures tt }
