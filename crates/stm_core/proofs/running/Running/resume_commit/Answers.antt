use Rattle.std.proofs.Common.{refl, rules}
use Rattle.stm_core.proofs.Ends.{whatever_due}
use Rattle.stm_core.specs.Running.{InvariantAt, attempt_at, left_at}
use Rattle.stm_core.proofs.running.Running.resume_commit.Goals as goal

pub returns-clause-becomes : goal.returns-clause-becomes
unfolding InvariantAt attempt_at left_at
returns-clause-becomes c = record {
  shows = search rules;
  left = search rules;
  numbers = record { own = refl; serial = refl; settings = refl };
  sound = record {
    fits = c.requires.fits;
    runs = c.runs_of-self.ensures.some;
    holds = (
      record {
        made_for = c.resume.ensures.same _ (whatever_due _ _ _ c.requires.commits.made_for);
        along = c.resume.ensures.along _ c.requires.commits.along;
      },
      rw c.resume.ensures.going refl,
    );
  };
}
