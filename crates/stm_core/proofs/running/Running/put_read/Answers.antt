use Rattle.std.proofs.Common.{◌≡◌, Some, refl, sym, ap, ◌∙◌, arith}
use Rattle.op_read.specs.declared.read.ReadEnd.TheVariants.{NeedExtension}
use Rattle.op_read.specs.declared.read.ReadPlace.TheVariants.{Ended}
use Rattle.stm_core.proofs.Ends.{read_over}
use Rattle.stm_core.specs.Running.{InvariantAt, attempt_at, left_at}
use Rattle.stm_core.proofs.running.Running.put_read.Goals as goal

pub returns-in-Some-NeedExtension-clause-becomes : goal.returns-in-Some-NeedExtension-clause-becomes
unfolding InvariantAt attempt_at left_at
returns-in-Some-NeedExtension-clause-becomes c =
    let waits = sym c.end.ensures ∙ c.in-Some-NeedExtension.is ∙ ap Some c.in-Some-NeedExtension.field-0-is in
    let over : c.args.op.place ≡ Ended (NeedExtension c.in-Some-NeedExtension.meta) = read_over _ _ waits in
    record {
      shows = rw over (c.new.ensures.begins _ _ _ _);
      left = rw over (omega (arith, c.new.ensures.bound));
      numbers = record { own = refl; serial = refl; settings = refl };
      sound = record {
        fits = c.requires.free.fits;
        runs = rw c.requires.free.nothing_due tt;
        holds = (
          record {
            made_for = c.new.ensures.for_attempt _ refl;
            along = c.new.ensures.along _;
            own = sym c.requires.reads.made_for.own;
            waits = waits;
            room = c.requires.reads.room;
          },
          rw c.new.ensures.going refl,
        );
      };
    }
