use Rattle.std.proofs.Common.{inr, refl, rules, arith}
use Rattle.stm_core.proofs.Marked.{marked_while_outer_kept}
use Rattle.stm_core.specs.Machine.{accesses_asked, reads_asked, writes_asked}
use Rattle.stm_core.specs.Running.{InvariantAt, attempt_at, left_at, reads_under_way, writes_under_way}
use Rattle.stm_model.specs.Moves.{MayRunOut, asked_going}
use Rattle.stm_core.proofs.running.Running.rewrite.Goals as goal

pub returns-in-Ok : goal.returns-in-Ok
unfolding InvariantAt attempt_at left_at reads_under_way writes_under_way accesses_asked reads_asked writes_asked asked_going
returns-in-Ok c = record {
  moves = search rules;
  takes = search rules;
  asked = record {
    left = search rules;
    room = record { for_reads = omega arith; for_writes = omega (arith, c.rewrite.ensures.spare) };
    numbers = record { own = refl; serial = refl; settings = refl };
    sound = record {
      fits = record {
        numbers = c.requires.free.fits.numbers;
        marks = marked_while_outer_kept _ _ _ _ _ (λ level is mark earlier. c.rewrite.ensures.marks mark (c.latest_mark-since.ensures.latest level is mark earlier)) c.requires.free.fits.marks;
      };
      runs = rw c.requires.free.nothing_due tt;
      holds = tt;
    };
  };
}

pub returns-in-Err : goal.returns-in-Err
unfolding InvariantAt attempt_at left_at reads_under_way writes_under_way accesses_asked reads_asked writes_asked asked_going MayRunOut
returns-in-Err c = record {
  moves = λ stage. inr (tt, rw c.in-Err.ensures.err.0 refl);
  takes = search rules;
  asked = record {
    left = search rules;
    room = record { for_reads = omega arith; for_writes = omega (arith, c.rewrite.ensures.spare) };
    numbers = record { own = refl; serial = refl; settings = refl };
    sound = record {
      fits = record {
        numbers = c.requires.free.fits.numbers;
        marks = marked_while_outer_kept _ _ _ _ _ (λ level is mark earlier. c.rewrite.ensures.marks mark (c.latest_mark-since.ensures.latest level is mark earlier)) c.requires.free.fits.marks;
      };
      runs = rw c.requires.free.nothing_due tt;
      holds = tt;
    };
  };
}
