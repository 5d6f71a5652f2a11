use Rattle.std.proofs.Common.{inl, inr, refl, arith}
use Rattle.stm_core.proofs.Marked.{marked_with_later, marked_with_same}
use Rattle.stm_core.specs.Machine.{accesses_asked, reads_asked, writes_asked}
use Rattle.stm_core.specs.Running.{InvariantAt, attempt_at, left_at, reads_under_way, writes_under_way}
use Rattle.stm_model.specs.Moves.{MayRunOut, asked_going}
use Rattle.stm_core.proofs.running.Running.later.Goals as goal

pub returns-in-Ok : goal.returns-in-Ok
unfolding InvariantAt attempt_at left_at reads_under_way writes_under_way accesses_asked reads_asked writes_asked asked_going
returns-in-Ok c =
    let same = c.later.ensures.hooks.hooks in
    record {
      moves = λ stage. inl (rw (c.requires.nothing_due, c.in-Ok.ensures.ok, same) refl);
      takes = λ stage free. absurd free;
      asked = record {
        left = omega arith;
        room = record { for_reads = omega arith; for_writes = omega arith };
        numbers = record { own = refl; serial = refl; settings = refl };
        sound = record {
          fits = record { numbers = c.requires.fits.numbers; marks = marked_with_later _ _ _ _ _ _ same c.in-Ok.ensures.ok c.requires.fits.marks };
          runs = rw c.requires.nothing_due tt;
          holds = tt;
        };
      };
    }

pub returns-in-Err : goal.returns-in-Err
unfolding InvariantAt attempt_at left_at reads_under_way writes_under_way accesses_asked reads_asked writes_asked asked_going MayRunOut
returns-in-Err c =
    let same = c.later.ensures.hooks.hooks in
    record {
      moves = λ stage. inr (tt, rw (c.requires.nothing_due, c.in-Err.ensures.err, same) refl);
      takes = λ stage free. absurd free;
      asked = record {
        left = omega arith;
        room = record { for_reads = omega arith; for_writes = omega arith };
        numbers = record { own = refl; serial = refl; settings = refl };
        sound = record {
          fits = record { numbers = c.requires.fits.numbers; marks = marked_with_same _ _ _ _ _ same c.in-Err.ensures.err c.requires.fits.marks };
          runs = rw c.requires.nothing_due tt;
          holds = tt;
        };
      };
    }
