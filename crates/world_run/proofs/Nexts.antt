-- What follows of an attempt's next move, beside what it promises.
use Rattle.std.proofs.Common.{Result, Ok, Err, OnErr, ◌≡◌, ◌≢◌, ℕ, Bool, true, false, IsTrue, ◌<◌, List, [], ◌∷◌, Option, Some, None, sym, refl, subst, length, arith}
use Rattle.opacity.specs.Plain.{IsUndecided}
use Rattle.stm_core.specs.Machine.{Promises, after_due, next_of, over, standing}
use Rattle.stm_core.specs.declared.next.Next.{Next}
use Rattle.stm_core.specs.declared.next.Next.TheVariants as coming
use Rattle.stm_core.specs.declared.next.Reply.TheVariants as reply
use Rattle.stm_model.specs.Accesses.{Act, access_of, next, next_at, unless_due}
use Rattle.stm_model.specs.Attempt.{Attempt, Due, Stage, Ready, Late, Stopped, Ended, Run, Ring}
use Rattle.stm_model.specs.Moves.{AwaitsAsk, AwaitsAskAt, Does}
use Rattle.stm_model.specs.World.{Moves, Steps}
use Rattle.stm_model.specs.declared.access.Access.{Access}
use Rattle.stm_model.specs.declared.access.Access.TheVariants.{Exchange}
use Rattle.stm_model.specs.declared.access.Word.TheVariants.{Clock}
use Rattle.stm_model.specs.declared.ending.Ending.{Ending}
use Rattle.world_run.specs.Going.{tells_end, tells_wait}
use Rattle.world_run.specs.Simulation.{IsOver, IsToDecide, replies, turn_of}

pub is_undecided : (access : Access) → ((old new : ℕ) → access ≢ Exchange Clock old new) → IsUndecided access
unfolding IsUndecided
is_undecided (Exchange Clock old new) apart = absurd (apart old new refl)
is_undecided access apart = tt

-- ---- the exchange of the clock

pub to_decide : (next : Option Next) (old : ℕ) → next ≡ Some (coming.Decide old) → IsToDecide next
unfolding IsToDecide
to_decide next old is = rw is tt

pub always_on_err : {T E P : Type 0} (result : Result T E) → P → OnErr result P
always_on_err (Ok value) holds = tt
always_on_err (Err error) holds = holds

-- ---- what is due

-- A step is asked for where nothing is due, and what is due comes first.
pub nothing_due : (t : Attempt) (act : Act) → next t ≡ Some act → t.due ≡ []
nothing_due t act is = go t.due is
  where
    go : (due : List Due) → unless_due due (next_at t t.stage) ≡ Some act → due ≡ []
    go [] here = refl
    go (first ∷ due) here = cc

-- ---- whether it is over

-- no attempt, or one that tells that it is over
abbrev pub over_next : Option Next → Bool
over_next None = true
over_next (Some next) = tells_end next

pub rests_so : (t : Attempt) (told : Next) → Promises t told → IsTrue (tells_end told) → IsOver t
rests_so t (coming.Reply (reply.Ended ending)) promises is = record { ended = promises.stage; nothing_due = promises.nothing_due }
rests_so t told promises is = cc

over_ending : (ending : Option Ending) → IsTrue (over_next (over ending))
over_ending None = refl
over_ending (Some ending) = refl

over_told : (t : Attempt) (due : List Due) (stage : Stage) → due ≡ [] → stage ≡ Ended → IsTrue (over_next (after_due due (standing t stage)))
unfolding after_due standing
over_told t due stage none ended = rw (none, ended) (over_ending t.ending)

pub tells_over : (t : Attempt) (told : Option Next) → told ≡ next_of t → IsOver t → IsTrue (over_next told)
tells_over t told same over = subst (λ (next : Option Next). IsTrue (over_next next)) (sym same) (over_told t t.due t.stage over.nothing_due over.ended)

-- ---- whose turn it is

pub step_turn : (p : ℕ) (t : Attempt) (act : Act) → next t ≡ Some act → turn_of p t.due ≡ Steps p
step_turn p t act is = rw (nothing_due t act is) refl

pub due_turn : (p : ℕ) (due : List Due) → 0 < length due → turn_of p due ≡ Moves p Does
due_turn p [] some = absurd (omega (arith, some))
due_turn p (first ∷ due) some = refl

-- ---- whether it does anything by itself

quiet_standing : (t : Attempt) (stage : Stage) → IsTrue (replies (standing t stage)) → next_at t stage ≡ None
unfolding standing next_at access_of
quiet_standing t (Ready told) is = refl
quiet_standing t (Late token) is = refl
quiet_standing t (Stopped cause) is = refl
quiet_standing t Ended is = refl
quiet_standing t stage is = cc

quiet_due : (t : Attempt) (due : List Due) → IsTrue (replies (after_due due (standing t t.stage))) → (unless_due due (next_at t t.stage) ≡ None) × (due ≡ [])
unfolding after_due
quiet_due t [] is = (quiet_standing t t.stage is, refl)
quiet_due t (Run phase token ∷ dues) is = cc
quiet_due t (Ring cell ∷ dues) is = cc

pub is_quiet : (t : Attempt) (told : Option Next) → told ≡ next_of t → IsTrue (replies told) → (next t ≡ None) × (t.due ≡ [])
is_quiet t told same is = quiet_due t t.due (subst (λ (next : Option Next). IsTrue (replies next)) same is)

-- ---- whether it waits to be asked

abbrev pub wait_next : Option Next → Bool
wait_next None = false
wait_next (Some next) = tells_wait next

pub awaits : (t : Attempt) (told : Next) → Promises t told → IsTrue (tells_wait told) → AwaitsAsk t
awaits t (coming.Before token) promises is = promises.waits.awaits
awaits t (coming.Reply reply.Ready) promises is = promises.awaits
awaits t (coming.Reply (reply.Value value)) promises is = promises.awaits
awaits t (coming.Reply (reply.Stopped cause)) promises is = promises.waits.awaits
awaits t told promises is = cc

wait_told : (t : Attempt) (stage : Stage) → AwaitsAskAt stage → IsTrue (wait_next (standing t stage))
unfolding standing AwaitsAskAt
wait_told t (Ready None) stands = refl
wait_told t (Ready (Some value)) stands = refl
wait_told t (Late token) stands = refl
wait_told t (Stopped cause) stands = refl
wait_told t stage stands = absurd stands

wait_after : (t : Attempt) (due : List Due) → due ≡ [] → AwaitsAskAt t.stage → IsTrue (wait_next (after_due due (standing t t.stage)))
unfolding after_due
wait_after t [] none stands = wait_told t t.stage stands
wait_after t (first ∷ dues) none stands = cc

pub tells_waits : (t : Attempt) (told : Option Next) → told ≡ next_of t → AwaitsAsk t → IsTrue (wait_next told)
tells_waits t told same awaits = subst (λ (next : Option Next). IsTrue (wait_next next)) (sym same) (wait_after t t.due awaits.nothing_due awaits.stands)
