use Rattle.std.proofs.Common.{inr, refl, rules, sym, arith}
use Rattle.stm_core.proofs.Marked.{marked_while_kept}
use Rattle.stm_core.specs.Running.{InvariantAt, attempt_at, left_at, reads_under_way, writes_under_way}
use Rattle.stm_core.specs.Machine.{accesses_asked, reads_asked, writes_asked}
use Rattle.stm_model.specs.Moves.{MayRunOut, asked_going}
use Rattle.stm_core.proofs.running.Running.first_write.Goals as goal

pub returns-in-Ok : goal.returns-in-Ok
unfolding InvariantAt attempt_at left_at reads_under_way writes_under_way accesses_asked reads_asked writes_asked asked_going MayRunOut
returns-in-Ok c = record {
  moves = search rules;
  takes = search rules;
  asked = record {
    left = search rules;
    room = search rules;
    numbers = record { own = refl; serial = refl; settings = refl };
    sound = record {
      fits = record { numbers = c.requires.free.fits.numbers; marks = marked_while_kept _ _ _ _ _ c.reserve_first_writes.ensures.marks c.requires.free.fits.marks };
      runs = rw c.requires.free.nothing_due tt;
      holds = (
        record {
          made_for = c.new-op.ensures.for_attempt _ refl refl (sym c.noted_version-noted.ensures);
          within = c.new-op.ensures.within;
          unwritten = rw (c.new-op.ensures.cell, c.reserve_first_writes.ensures.same) c.requires.unwritten;
          room = omega (arith, c.in-Ok.ensures.ok);
        },
        rw c.new-op.ensures.going refl,
      );
    };
  };
}

pub returns-in-Err : goal.returns-in-Err
unfolding InvariantAt attempt_at left_at reads_under_way writes_under_way accesses_asked reads_asked writes_asked asked_going MayRunOut
returns-in-Err c = record {
  moves = λ stage. inr (tt, rw c.reserve_first_writes.ensures.same refl);
  takes = search rules;
  asked = record {
    left = omega arith;
    room = search rules;
    numbers = record { own = refl; serial = refl; settings = refl };
    sound = record {
      fits = record { numbers = c.requires.free.fits.numbers; marks = marked_while_kept _ _ _ _ _ c.reserve_first_writes.ensures.marks c.requires.free.fits.marks };
      runs = rw c.requires.free.nothing_due tt;
      holds = tt;
    };
  };
}
