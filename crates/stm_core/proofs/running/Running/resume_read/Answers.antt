use Rattle.std.proofs.Common.{refl, sym, arith}
use Rattle.stm_core.specs.Running.{InvariantAt, attempt_at, base, left_at}
use Rattle.stm_core.proofs.running.Running.resume_read.Goals as goal

pub returns-clause-becomes : goal.returns-clause-becomes
unfolding InvariantAt attempt_at left_at
returns-clause-becomes c = λ first is. record {
  shows = c.resume.ensures.place first is (record (base c.args.self.now) { prefix = c.args.prefix });
  left = omega (arith, c.resume.ensures.falls);
  numbers = record { own = refl; serial = refl; settings = refl };
  sound = record {
    fits = c.requires.free.fits;
    runs = rw c.requires.free.nothing_due tt;
    holds = (record { made_for = c.resume.ensures.for_attempt _ (sym c.requires.own) refl; room = rw c.resume.ensures.cell c.requires.room }, rw c.resume.ensures.going refl);
  };
}
