use Rattle.std.proofs.Common.{refl, ◌≤◌, ◌<◌, length, sym, ap, subst, ◌∙◌, arith}
use Rattle.stm_core.proofs.Asking.{accesses_shown}
use Rattle.stm_core.proofs.GoingOn.{due_over, over_goes_on}
use Rattle.stm_core.proofs.Shown.{none_shown, same_attempt, some_shown, waits_then}
use Rattle.stm_core.specs.Machine.{Machine, accesses_asked, reads_asked, writes_asked}
use Rattle.stm_core.specs.Running.{left_in, shown}
use Rattle.stm_model.specs.Moves.{AwaitsAsk, EndsLate, moved}
use Rattle.stm_model.specs.declared.access.Ask.TheVariants.{Finish}
use Rattle.stm_core.proofs.attempt.Attempt.ran.Goals as goal

-- something is due
pub do_first-requires-clause-due : goal.do_first-requires-clause-due
do_first-requires-clause-due c = some_shown c.self.inside.running c.self.invariant (c.if-has_due.ensures.some refl)

due_then : (c : goal.After-do_first) → AwaitsAsk c.args.self.now.attempt → ⊥
due_then c waits =
    let some = some_shown c.self.inside.running c.self.invariant (c.if-has_due.ensures.some refl) in
    omega (arith, some, ap length (ap (λ (m : Machine). m.attempt.due) c.self.view_is ∙ waits.nothing_due))

pub returns-then-has_due-clause-ends : goal.returns-then-has_due-clause-ends
returns-then-has_due-clause-ends c = λ waits. absurd (due_then c waits)

pub returns-then-has_due-clause-goes_on : goal.returns-then-has_due-clause-goes_on
returns-then-has_due-clause-goes_on c = λ waits. absurd (due_then c waits)

pub returns-then-has_due-clause-due : goal.returns-then-has_due-clause-due
returns-then-has_due-clause-due c = λ waits. absurd (due_then c waits)

pub returns-then-has_due-clause-bound : goal.returns-then-has_due-clause-bound
returns-then-has_due-clause-bound c = λ waits. absurd (due_then c waits)

pub returns-then-has_due-clause-same : goal.returns-then-has_due-clause-same
returns-then-has_due-clause-same c = let becomes = c.do_first.ensures.becomes in same_attempt c.self.inside.running c.do_first.new.self c.args.self.now c.self.invariant becomes.sound c.self.view_is becomes.numbers

-- nothing is due
pub end_late-requires-clause-waits : goal.end_late-requires-clause-waits
end_late-requires-clause-waits c = waits_then c.self.inside.running c.args.self.now c.self.invariant c.self.view_is (c.if-has_due.ensures.none refl) c.requires

none_then : (c : goal.After-end_late) → 0 < length c.args.self.now.attempt.due → ⊥
none_then c some =
    let none = none_shown c.self.inside.running c.self.invariant (c.if-has_due.ensures.none refl) in
    omega (arith, some, ap length (sym (ap (λ (m : Machine). m.attempt.due) c.self.view_is) ∙ none))

pub returns-else-has_due-clause-does : goal.returns-else-has_due-clause-does
returns-else-has_due-clause-does c = λ some. absurd (none_then c some)

pub returns-else-has_due-clause-left : goal.returns-else-has_due-clause-left
returns-else-has_due-clause-left c = λ some. absurd (none_then c some)

pub returns-else-has_due-clause-goes_on : goal.returns-else-has_due-clause-goes_on
returns-else-has_due-clause-goes_on c = λ waits.
    over_goes_on c.args.self.now.attempt (shown c.end_late.new.self) waits.stands (c.end_late.ensures.moves ∙ ap (λ (m : Machine). moved m.attempt EndsLate) c.self.view_is)

pub returns-else-has_due-clause-same : goal.returns-else-has_due-clause-same
returns-else-has_due-clause-same c = let asked = c.end_late.ensures.asked in same_attempt c.self.inside.running c.end_late.new.self c.args.self.now c.self.invariant asked.sound c.self.view_is asked.numbers

pub returns-else-has_due-clause-bound : goal.returns-else-has_due-clause-bound
returns-else-has_due-clause-bound c = λ waits.
    subst (λ (m : Machine). left_in c.end_late.new.self ≤ accesses_asked m.attempt Finish) c.self.view_is
    (subst (λ most. left_in c.end_late.new.self ≤ most) (accesses_shown c.self.inside.running Finish c.self.invariant) c.end_late.ensures.asked.left)

pub returns-else-has_due-clause-room : goal.returns-else-has_due-clause-room
unfolding reads_asked writes_asked
returns-else-has_due-clause-room c = let room = c.end_late.ensures.asked.room in record {
  for_reads = omega (arith, room.for_reads, sym (ap (λ (m : Machine). m.spare_reads) c.self.view_is));
  for_writes = omega (arith, room.for_writes, sym (ap (λ (m : Machine). m.spare_writes) c.self.view_is));
}

pub returns-else-has_due-clause-due : goal.returns-else-has_due-clause-due
returns-else-has_due-clause-due c = λ waits.
    due_over c.args.self.now.attempt (shown c.end_late.new.self) waits.stands waits.nothing_due (c.end_late.ensures.moves ∙ ap (λ (m : Machine). moved m.attempt EndsLate) c.self.view_is)
