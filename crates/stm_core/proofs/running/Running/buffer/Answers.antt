use Rattle.std.proofs.Common.{refl, rules}
use Rattle.stm_core.proofs.Marked.{marked_while_kept}
use Rattle.stm_core.specs.Running.{InvariantAt, attempt_at, left_at}
use Rattle.stm_core.proofs.running.Running.buffer.Goals as goal

pub returns-clause-becomes : goal.returns-clause-becomes
unfolding InvariantAt attempt_at left_at
returns-clause-becomes c = record {
  shows = search rules;
  left = search rules;
  numbers = record { own = refl; serial = refl; settings = refl };
  sound = record {
    fits = record { numbers = c.requires.free.fits.numbers; marks = marked_while_kept _ _ _ _ _ c.put_first.ensures.marks c.requires.free.fits.marks };
    runs = search rules;
    holds = tt;
  };
}
