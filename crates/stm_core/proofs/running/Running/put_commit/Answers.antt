use Rattle.std.proofs.Common.{◌≡◌, Some, sym, ap, ◌∙◌, rules}
use Rattle.op_commit.specs.declared.commit.CommitEnd.TheVariants.{Stamp}
use Rattle.op_commit.specs.declared.commit.CommitPlace.TheVariants.{Ended}
use Rattle.stm_core.proofs.Ends.{commit_ends, commit_over}
use Rattle.stm_core.specs.Running.{base}
use Rattle.stm_core.proofs.running.Running.put_commit.Goals as goal

pub returns-in-Some-Prepared-clause-becomes : goal.returns-in-Some-Prepared-clause-becomes
returns-in-Some-Prepared-clause-becomes c = let becomes = c.resume_commit.ensures.becomes in record {
  shows = search rules;
  left = becomes.left;
  numbers = record { own = becomes.numbers.own; serial = becomes.numbers.serial; settings = becomes.numbers.settings };
  sound = becomes.sound;
}

pub returns-in-Some-Stamp-clause-becomes : goal.returns-in-Some-Stamp-clause-becomes
returns-in-Some-Stamp-clause-becomes c = let becomes = c.end-in-Some-Stamp.ensures.becomes in
    let over : c.args.op.place ≡ Ended (Stamp c.in-Some-Stamp.stamp) = commit_over _ _ (sym c.end.ensures ∙ c.in-Some-Stamp.is ∙ ap Some c.in-Some-Stamp.field-0-is) in
    record {
      shows = becomes.shows ∙ rw c.rings.ensures (sym (commit_ends c.args.op (base c.args.self.now) c.in-Some-Stamp.stamp over));
      left = search rules;
      numbers = record { own = becomes.numbers.own; serial = becomes.numbers.serial; settings = becomes.numbers.settings };
      sound = becomes.sound;
    }
