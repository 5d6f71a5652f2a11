use Rattle.std.proofs.Common.{◌≡◌, ◌⊎◌, ◌≤◌, ◌-◌, ◌^◌, sym, ap, subst}
use Rattle.stm_core.proofs.Asking.{accesses_shown, closes_open, room_shown, stays_so}
use Rattle.stm_core.proofs.GoingOn.{asked_goes_on, due_after}
use Rattle.stm_core.proofs.Shown.{same_attempt}
use Rattle.stm_core.specs.Machine.{HasSpare, IsRefused, Machine, accesses_asked, reads_asked, writes_asked}
use Rattle.stm_core.specs.Running.{left_in, machine_of, shown}
use Rattle.stm_model.specs.Moves.{MayAsk, Takes, moved}
use Rattle.stm_core.proofs.attempt.Attempt.ask.Goals as goal

-- which attempt was asked
before : (c : goal.After-ask) → shown c.self.inside.running ≡ c.args.self.now.attempt
before c = ap (λ (m : Machine). m.attempt) c.self.view_is

-- what the ask made of it
moves : (c : goal.After-ask) → (shown c.ask.new.self ≡ moved c.args.self.now.attempt (Takes c.args.ask)) ⊎ IsRefused c.args.self.now.attempt c.args.ask (shown c.ask.new.self)
moves c = subst (λ t. (shown c.ask.new.self ≡ moved t (Takes c.args.ask)) ⊎ IsRefused t c.args.ask (shown c.ask.new.self)) (before c) c.ask.ensures.moves

pub ask-requires-clause-open : goal.ask-requires-clause-open
ask-requires-clause-open c = closes_open c.self.inside.running c.args.ask c.self.invariant (subst (λ t. MayAsk (2 ^ 32) t c.args.ask) (sym (ap (λ (m : Machine). m.attempt) c.self.view_is)) c.requires.may)

pub returns-clause-goes_on : goal.returns-clause-goes_on
returns-clause-goes_on c = asked_goes_on c.args.self.now.attempt (shown c.ask.new.self) c.args.ask c.requires.may c.requires.waits.stands (moves c)

pub returns-clause-due : goal.returns-clause-due
returns-clause-due c = due_after c.args.self.now.attempt (shown c.ask.new.self) c.args.ask c.requires.waits.nothing_due (moves c)

pub returns-clause-stays : goal.returns-clause-stays
returns-clause-stays c = λ cause is call. stays_so c.args.self.now.attempt (shown c.ask.new.self) cause c.args.ask is call (moves c)

pub returns-clause-same : goal.returns-clause-same
returns-clause-same c = same_attempt c.self.inside.running c.ask.new.self c.args.self.now c.self.invariant c.ask.ensures.asked.sound c.self.view_is c.ask.ensures.asked.numbers

pub returns-clause-bound : goal.returns-clause-bound
returns-clause-bound c =
    subst (λ t. left_in c.ask.new.self ≤ accesses_asked t c.args.ask) (before c)
    (subst (λ most. left_in c.ask.new.self ≤ most) (accesses_shown c.self.inside.running c.args.ask c.self.invariant) c.ask.ensures.asked.left)

pub returns-clause-room : goal.returns-clause-room
returns-clause-room c =
    let r = c.self.inside.running in
    subst (λ (m : Machine). HasSpare (m.spare_reads - reads_asked m.attempt c.args.ask) (m.spare_writes - writes_asked m.attempt c.args.ask) (machine_of c.ask.new.self)) c.self.view_is
    (room_shown r c.ask.new.self c.args.ask c.self.invariant c.ask.ensures.asked.room)
