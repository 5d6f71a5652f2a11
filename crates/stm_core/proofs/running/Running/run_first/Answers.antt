use Rattle.std.proofs.Common.{◌∙◌}
use Rattle.stm_core.proofs.Doing.{runs_one, runs_soundly}
use Rattle.stm_core.proofs.running.Running.run_first.Goals as goal

pub leave_runs-requires-clause-sound : goal.leave_runs-requires-clause-sound
leave_runs-requires-clause-sound c = runs_soundly c.args.self.now c.run.new.self c.requires.sound c.run.ensures.books

pub returns-in-Some-clause-becomes : goal.returns-in-Some-clause-becomes
returns-in-Some-clause-becomes c = let becomes = c.leave_runs.ensures.becomes in record {
  shows = becomes.shows ∙ runs_one c.args.self.now c.args.walk c.in-Some.phase c.in-Some.token _ c.run.new.self c.requires.sound c.requires.due c.in-Some.ensures c.run.ensures.rings c.run.ensures.runs c.run.ensures.books;
  left = becomes.left;
  numbers = record { own = becomes.numbers.own; serial = becomes.numbers.serial; settings = becomes.numbers.settings };
  sound = becomes.sound;
}
