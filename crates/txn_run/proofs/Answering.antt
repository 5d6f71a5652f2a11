-- What an attempt that rests does next tells what it was answered by.
use Rattle.std.proofs.Common.{◌≡◌, ◌≢◌, ℕ, List, [], Option, Some, None, Ok, refl, sym, ap, subst, ◌∙◌, ⊎_elim}
use Rattle.stm_core.specs.Machine as Machine
use Rattle.stm_core.specs.Machine.{after_due, next_of, standing}
use Rattle.stm_core.specs.Running.{attempt_at, base, shown}
use Rattle.stm_core.specs.declared.next.Next.{Next}
use Rattle.stm_core.specs.declared.next.Next.TheVariants as coming
use Rattle.stm_core.specs.declared.next.Reply.TheVariants as reply
use Rattle.stm_core.specs.declared.running.Running.{Running}
use Rattle.stm_core.specs.declared.running.State.{State}
use Rattle.stm_core.specs.declared.running.State.TheVariants as in_state
use Rattle.stm_model.specs.Attempt.{Attempt, Due, Ended, Late, Ready, Stage, Stopped}
use Rattle.stm_model.specs.Moves.{AwaitsAsk, AwaitsAskAt}
use Rattle.stm_model.specs.declared.ending.Ending.{Ending}
use Rattle.txn_drive.specs.Standing.{IsOver, Rests}
use Rattle.txn_run.specs.Flights.{told_at}
use Rattle.txn_run.specs.Told.{ending_by, token_at, token_by, told_by}

next_stands : (t : Attempt) → t.due ≡ [] → next_of t ≡ standing t t.stage
unfolding after_due
next_stands t due = ap (λ (dues : List Due). after_due dues (standing t t.stage)) due

waits_tell : (t : Attempt) (stage : Stage) (next : Next) → AwaitsAskAt stage → standing t stage ≡ Some next → told_by next ≡ told_at stage
unfolding AwaitsAskAt standing told_at
waits_tell t (Ready None) next waits is = let same : next ≡ coming.Reply reply.Ready = cc is in rw same refl
waits_tell t (Ready (Some value)) next waits is = let same : next ≡ coming.Reply (reply.Value value) = cc is in rw same refl
waits_tell t (Late token) next waits is = let same : next ≡ coming.Before token = cc is in rw same refl
waits_tell t (Stopped cause) next waits is = let same : next ≡ coming.Reply (reply.Stopped cause) = cc is in rw same refl
waits_tell t stage next waits is = absurd waits

ends_tell : (ending : Option Ending) (next : Next) → Machine.over ending ≡ Some next → told_by next ≡ Ok None
ends_tell None next is = absurd (cc is)
ends_tell (Some ending) next is = let same : next ≡ coming.Reply (reply.Ended ending) = cc is in rw same refl

over_tells : (t : Attempt) (stage : Stage) (next : Next) → stage ≡ Ended → standing t stage ≡ Some next → told_by next ≡ told_at stage
unfolding standing told_at
over_tells t stage next over is = rw over (ends_tell t.ending next (rw over at is))

pub told_next : (t : Attempt) (next : Next) → Rests t → next_of t ≡ Some next → told_by next ≡ told_at t.stage
told_next t next rests is = ⊎_elim
    (λ (waits : AwaitsAsk t). waits_tell t t.stage next waits.stands (sym (next_stands t waits.nothing_due) ∙ is))
    (λ (over : IsOver t). over_tells t t.stage next over.stage (sym (next_stands t over.nothing_due) ∙ is)) rests

-- ---- a before-commit body has its turn, or the attempt has ended

waits_turn : (t : Attempt) (stage : Stage) (next : Next) → AwaitsAskAt stage → standing t stage ≡ Some next → token_by next ≡ token_at stage
unfolding AwaitsAskAt standing token_at
waits_turn t (Ready None) next waits is = let same : next ≡ coming.Reply reply.Ready = cc is in rw same refl
waits_turn t (Ready (Some value)) next waits is = let same : next ≡ coming.Reply (reply.Value value) = cc is in rw same refl
waits_turn t (Late token) next waits is = let same : next ≡ coming.Before token = cc is in rw same refl
waits_turn t (Stopped cause) next waits is = let same : next ≡ coming.Reply (reply.Stopped cause) = cc is in rw same refl
waits_turn t stage next waits is = absurd waits

over_turn : (ending : Option Ending) (next : Next) → Machine.over ending ≡ Some next → token_by next ≡ None
over_turn None next is = absurd (cc is)
over_turn (Some ending) next is = let same : next ≡ coming.Reply (reply.Ended ending) = cc is in rw same refl

ended_turn : (t : Attempt) (stage : Stage) (next : Next) → stage ≡ Ended → standing t stage ≡ Some next → token_by next ≡ token_at stage
unfolding standing token_at
ended_turn t stage next over is = rw over (over_turn t.ending next (rw over at is))

pub token_next : (t : Attempt) (next : Next) → Rests t → next_of t ≡ Some next → token_by next ≡ token_at t.stage
token_next t next rests is = ⊎_elim
    (λ (waits : AwaitsAsk t). waits_turn t t.stage next waits.stands (sym (next_stands t waits.nothing_due) ∙ is))
    (λ (over : IsOver t). ended_turn t t.stage next over.stage (sym (next_stands t over.nothing_due) ∙ is)) rests

ending_found : (found : Option Ending) (next : Next) → Machine.over found ≡ Some next → ending_by next ≡ found
ending_found None next is = absurd (cc is)
ending_found (Some ending) next is = let same : next ≡ coming.Reply (reply.Ended ending) = cc is in rw same refl

some_found : (found : Option Ending) (next : Next) → Machine.over found ≡ Some next → found ≢ None
some_found None next is none = cc is
some_found (Some ending) next is none = cc none

next_over : (t : Attempt) (next : Next) → IsOver t → next_of t ≡ Some next → Machine.over t.ending ≡ Some next
unfolding standing
next_over t next over is = subst (λ (stage : Stage). standing t stage ≡ Some next) over.stage (sym (next_stands t over.nothing_due) ∙ is)

-- Who is over has ended so.
pub ending_next : (t : Attempt) (next : Next) → IsOver t → next_of t ≡ Some next → ending_by next ≡ t.ending
ending_next t next over is = ending_found t.ending next (next_over t next over is)

pub has_ended : (t : Attempt) (next : Next) → IsOver t → next_of t ≡ Some next → ending_by next ≢ None
has_ended t next over is none = some_found t.ending next (next_over t next over is) (sym (ending_next t next over is) ∙ none)

-- ---- what an attempt as it is kept tells without a look at what comes next

pub ready_told : (r : Running) (told : Option ℕ) → r.state ≡ in_state.Ready told → told_at (shown r).stage ≡ Ok told
unfolding attempt_at told_at
ready_told r told is = ap (λ (state : State). told_at (attempt_at (base r) state).stage) is

pub ended_turns : (r : Running) (ending : Ending) → r.state ≡ in_state.Ended ending → token_at (shown r).stage ≡ None
unfolding attempt_at token_at
ended_turns r ending is = ap (λ (state : State). token_at (attempt_at (base r) state).stage) is

pub ended_so : (r : Running) (ending : Ending) → r.state ≡ in_state.Ended ending → (shown r).ending ≡ Some ending
unfolding attempt_at
ended_so r ending is = ap (λ (state : State). (attempt_at (base r) state).ending) is
