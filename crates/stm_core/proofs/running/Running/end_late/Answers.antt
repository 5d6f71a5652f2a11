use Rattle.std.proofs.Common.{arith}
use Rattle.stm_core.proofs.Asking.{going_over, stopped_over, waits_at, waits_so}
use Rattle.stm_core.proofs.Shown.{nothing_due_so}
use Rattle.stm_core.specs.Machine.{accesses_asked, reads_asked, writes_asked}
use Rattle.stm_core.specs.Running.{shown}
use Rattle.stm_core.proofs.running.Running.end_late.Goals as goal

pub go_on-requires : goal.go_on-requires
go_on-requires c = record { fits = c.requires.sound.fits; nothing_due = nothing_due_so c.args.self.now c.requires.sound c.requires.waits.nothing_due }

pub abandon-requires : goal.abandon-requires
abandon-requires c = record { fits = c.requires.sound.fits; nothing_due = nothing_due_so c.args.self.now c.requires.sound c.requires.waits.nothing_due }

pub unreachable-requires : goal.unreachable-requires
unreachable-requires c = waits_so c.args.self.now c.requires.sound c.requires.waits c.in_default.not-Ready c.in_default.not-Late c.in_default.not-Stopped

pub returns-in-Stopped-clause-moves : goal.returns-in-Stopped-clause-moves
returns-in-Stopped-clause-moves c = stopped_over c.args.self.now c.in-Stopped.cause (shown c.abandon.new.self) c.in-Stopped.is (c.abandon.ensures.refused c.in-Stopped.cause)

pub returns-in-Stopped-clause-asked : goal.returns-in-Stopped-clause-asked
unfolding accesses_asked reads_asked writes_asked
returns-in-Stopped-clause-asked c = let asked = c.abandon.ensures.answers.asked in record {
  left = omega (arith, asked.left);
  room = asked.room;
  numbers = asked.numbers;
  sound = asked.sound;
}

pub returns-in-Ready-clause-moves : goal.returns-in-Ready-clause-moves
returns-in-Ready-clause-moves c =
    let waits = waits_at c.args.self.now c.in-Ready.is in
    going_over c.args.self.now waits (shown c.go_on.new.self) (c.go_on.ensures.takes waits.stage tt)
