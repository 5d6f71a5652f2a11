use Rattle.std.proofs.Common.{refl, arith}
use Rattle.stm_core.proofs.Doing.{rings_one, rings_soundly, something_due}
use Rattle.stm_core.proofs.running.Running.do_first.Goals as goal

pub returns-in-Some-clause-becomes : goal.returns-in-Some-clause-becomes
returns-in-Some-clause-becomes c = record {
  shows = rings_one c.args.self.now c.in-Some.addr c.ring.new.self c.requires.sound c.in-Some.is c.ring.ensures.rings c.ring.ensures.runs c.ring.ensures.books;
  left = omega arith;
  numbers = record { own = refl; serial = refl; settings = refl };
  sound = rings_soundly c.args.self.now c.ring.new.self c.requires.sound c.ring.ensures.books;
}

pub returns-in_default-runs-clause-becomes : goal.returns-in_default-runs-clause-becomes
returns-in_default-runs-clause-becomes c = absurd (something_due c.args.self.now c.requires.sound c.requires.due c.in_default.is c.in_default-runs.is)
