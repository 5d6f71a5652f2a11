use Rattle.std.proofs.Common.{refl, arith}
use Rattle.stm_core.specs.Running.{InvariantAt, attempt_at, left_at}
use Rattle.stm_core.proofs.running.Running.roll_back.Goals as goal

pub returns-clause-becomes : goal.returns-clause-becomes
unfolding InvariantAt attempt_at left_at
returns-clause-becomes c = record {
  shows = c.new.ensures.rolls refl _;
  left = c.new.ensures.bound _;
  numbers = record { own = refl; serial = refl; settings = refl };
  sound = record {
    fits = c.requires.fits;
    runs = c.requires.runs;
    holds = (
      record {
        made_for = c.new.ensures.for_attempt _ refl refl;
        along = c.new.ensures.to_the_end refl _ (omega arith);
        whole = c.new.ensures.whole;
      },
      rw c.new.ensures.going refl,
    );
  };
}
