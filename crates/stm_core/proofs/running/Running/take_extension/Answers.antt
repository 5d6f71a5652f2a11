use Rattle.std.proofs.Common.{refl, rules, arith}
use Rattle.stm_core.specs.Running.{InvariantAt, attempt_at, left_at, reads_under_way, writes_under_way}
use Rattle.stm_core.proofs.running.Running.take_extension.Goals as goal

pub returns-in-None : goal.returns-in-None
unfolding InvariantAt attempt_at left_at reads_under_way writes_under_way
returns-in-None c = let made = c.requires.holds.0 in record {
  shows = search rules;
  falls = search rules;
  room = record { for_reads = omega arith; for_writes = omega arith };
  numbers = record { own = refl; serial = refl; settings = refl };
  sound = record {
    fits = c.requires.fits;
    runs = rw c.requires.nothing_due tt;
    holds = (
      record {
        made_for = c.take.ensures.same _ made.made_for;
        along = c.take.ensures.along;
        own = made.own;
        waits = made.waits;
        room = made.room;
      },
      rw (← c.end.ensures, c.in-None.is) refl,
    );
  };
}
