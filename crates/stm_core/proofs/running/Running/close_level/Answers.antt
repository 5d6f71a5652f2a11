use Rattle.std.proofs.Common.{refl}
use Rattle.stm_core.proofs.Marked.{marked_around}
use Rattle.stm_core.proofs.running.Running.close_level.Goals as goal

pub returns-clause-fits : goal.returns-clause-fits
returns-clause-fits c = record {
  numbers = c.requires.fits.numbers;
  marks = rw (c.leave.ensures.books, c.keep.ensures) (marked_around _ _ _ _ c.requires.fits.marks);
}

pub returns-clause-same : goal.returns-clause-same
returns-clause-same c = refl

pub returns-clause-closed : goal.returns-clause-closed
returns-clause-closed c = rw (c.leave.ensures.rings, c.leave.ensures.runs, c.leave.ensures.books) refl
