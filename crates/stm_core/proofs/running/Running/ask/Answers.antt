use Rattle.std.proofs.Common.{inl}
use Rattle.stm_core.proofs.Asking.{going_asked, going_taken, less_spare, stopped_taken, waits_at, waits_so}
use Rattle.stm_core.proofs.Shown.{nothing_due_so}
use Rattle.stm_core.specs.Running.{InvariantAt, shown}
use Rattle.stm_core.proofs.running.Running.ask.Goals as goal

pub ask_going-requires-clause-free : goal.ask_going-requires-clause-free
ask_going-requires-clause-free c = record { fits = c.requires.sound.fits; nothing_due = nothing_due_so c.args.self.now c.requires.sound c.requires.waits.nothing_due }

pub ask_stopped-requires-clause-stopped : goal.ask_stopped-requires-clause-stopped
unfolding InvariantAt
ask_stopped-requires-clause-stopped c = record { fits = c.requires.sound.fits; nothing_due = nothing_due_so c.args.self.now c.requires.sound c.requires.waits.nothing_due; holds = tt }

pub unreachable-requires : goal.unreachable-requires
unreachable-requires c = waits_so c.args.self.now c.requires.sound c.requires.waits c.in_default.not-Ready c.in_default.not-Late c.in_default.not-Stopped

pub returns-in-Ready-clause-moves : goal.returns-in-Ready-clause-moves
returns-in-Ready-clause-moves c =
    let waits = waits_at c.args.self.now c.in-Ready.is in
    going_asked c.args.self.now waits c.args.ask (shown c.ask_going.new.self) (c.ask_going.ensures.moves waits.stage)

pub returns-in-Ready-clause-takes : goal.returns-in-Ready-clause-takes
returns-in-Ready-clause-takes c = λ free.
    let waits = waits_at c.args.self.now c.in-Ready.is in
    going_taken c.args.self.now waits c.args.ask (shown c.ask_going.new.self) (c.ask_going.ensures.takes waits.stage (less_spare c.args.self.now c.args.ask c.requires.sound free))

pub returns-in-Stopped-clause-moves : goal.returns-in-Stopped-clause-moves
returns-in-Stopped-clause-moves c = inl (stopped_taken c.args.self.now c.in-Stopped.cause c.args.ask (shown c.ask_stopped.new.self) c.in-Stopped.is c.ask_stopped.ensures.moves)

pub returns-in-Stopped-clause-takes : goal.returns-in-Stopped-clause-takes
returns-in-Stopped-clause-takes c = λ free. stopped_taken c.args.self.now c.in-Stopped.cause c.args.ask (shown c.ask_stopped.new.self) c.in-Stopped.is c.ask_stopped.ensures.moves
