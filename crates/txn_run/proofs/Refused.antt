-- What becomes of an ask that is refused: of who was refused something before, and out of memory. Here t is an attempt.
use Rattle.std.proofs.Common.{◌≡◌, ℕ, List, Some, None, Err, refl, sym, subst, ◌∙◌, inr}
use Rattle.stm_core.specs.Machine.{IsRefused}
use Rattle.stm_model.specs.After.{stopped}
use Rattle.stm_model.specs.Attempt.{Attempt, Stage, Stopped, cause_at, cells_of}
use Rattle.stm_model.specs.CellsState.{outer}
use Rattle.stm_model.specs.Moves.{AwaitsAsk, AwaitsAskAt, IsCall, MayRunOut, Takes, asked_at, asked_stopped, moved}
use Rattle.stm_model.specs.Telling.{Refused}
use Rattle.stm_model.specs.declared.access.Ask.{Ask}
use Rattle.stm_model.specs.declared.access.Ask.TheVariants.{Abandon, Enter, Finish, Get, Hook, Keep, Later, Set, Undo}
use Rattle.stm_model.specs.declared.cause.Cause.{Cause}
use Rattle.stm_model.specs.declared.cause.Cause.TheVariants.{Memory}
use Rattle.stm_model.proofs.AttemptLemmas.{calls-refused, keep-refused, undo-refused}
use Rattle.stm_model.proofs.FirstUseLemmas.{none-noted}
use Rattle.txn_drive.specs.Paying.{IsLed}
use Rattle.txn_run.specs.Flights.{IsOfBodies, Tells, told_at}
use Rattle.txn_run.proofs.Awaiting.{IsTold, cause_stopped, told_here, told_stopped}

-- ---- who was refused something before

keeps_stopped : (t : Attempt) (stage : Stage) (cause : Cause) → cause_at stage ≡ Some cause → asked_at t stage Keep ≡ record t { saved = outer t.saved }
unfolding cause_at asked_at asked_stopped
keeps_stopped t (Stopped other) cause is = refl
keeps_stopped t stage cause is = cc is

undoes_stopped : (t : Attempt) (stage : Stage) (cause : Cause) → cause_at stage ≡ Some cause → asked_at t stage Undo ≡ record t { saved = outer t.saved }
unfolding cause_at asked_at asked_stopped
undoes_stopped t (Stopped other) cause is = refl
undoes_stopped t stage cause is = cc is

module _ (lawful : List ℕ → Type 0) (size : ℕ) (t u : Attempt) (waits : AwaitsAsk t) (cause : Cause) (was : cause_at t.stage ≡ Some cause) where
  again : (fresh : Cause → Type 0) → Refused fresh cause (cells_of size t) (cells_of size t)
  again fresh = record {
    is = rw was refl;
    again = λ earlier is. let one : Some cause ≡ Some earlier = sym was ∙ is in cc;
    first = λ none. let never : Some cause ≡ None = sym was ∙ none in cc;
  }

  call_tells : (ask : Ask) → IsCall ask → Tells lawful ask (Err cause) (cells_of size t) (cells_of size t)
  unfolding IsCall Tells
  call_tells (Get cell) call = again _
  call_tells (Set cell value) call = again _
  call_tells Enter call = again _
  call_tells (Hook phase token) call = again _
  call_tells (Later token) call = again _
  call_tells ask call = absurd call

  call_refused : (ask : Ask) → IsCall ask → IsLed (moved t (Takes ask)) u → IsTold lawful size ask t u
  call_refused ask call leads =
      let tells : Tells lawful ask (told_at t.stage) (cells_of size t) (cells_of size t) = rw (told_stopped t.stage cause (cause_stopped t.stage cause was)) (call_tells ask call) in
      told_here lawful size ask t u t waits tells (subst (λ (a : Attempt). IsLed a u) (calls-refused t cause was ask call) leads)

  closes : (ask : Ask) → moved t (Takes ask) ≡ record t { saved = outer t.saved }
      → Tells lawful ask (told_at (moved t (Takes ask)).stage) (cells_of size t) (cells_of size (moved t (Takes ask))) → IsLed (moved t (Takes ask)) u → IsTold lawful size ask t u
  closes ask is tells leads =
      told_here lawful size ask t u (moved t (Takes ask)) (subst AwaitsAsk (sym is) (record { stands = waits.stands; nothing_due = waits.nothing_due })) tells leads

  -- Each call is refused with that cause, and levels are closed.
  pub refused_before : (ask : Ask) → IsOfBodies ask → IsLed (moved t (Takes ask)) u → IsTold lawful size ask t u
  unfolding IsOfBodies IsCall Tells moved
  refused_before (Get cell) body leads = call_refused (Get cell) tt leads
  refused_before (Set cell value) body leads = call_refused (Set cell value) tt leads
  refused_before Enter body leads = call_refused Enter tt leads
  refused_before Keep body leads = closes Keep (keeps_stopped t t.stage cause was) (keep-refused t cause was size) leads
  refused_before Undo body leads = closes Undo (undoes_stopped t t.stage cause was) (undo-refused t cause was size) leads
  refused_before (Hook phase token) body leads = call_refused (Hook phase token) tt leads
  refused_before (Later token) body leads = call_refused (Later token) tt leads
  refused_before Finish body leads = absurd body
  refused_before (Abandon other) body leads = absurd body

-- ---- out of memory

module _ (lawful : List ℕ → Type 0) (size : ℕ) (t : Attempt) (going : cause_at t.stage ≡ None) where
  stops : (fresh : Cause → Type 0) → fresh Memory → Refused fresh Memory (cells_of size t) (cells_of size (stopped t Memory))
  unfolding cause_at
  stops fresh is = record {
    is = refl;
    again = λ earlier was. let never : None ≡ Some earlier = sym going ∙ was in cc;
    first = λ none. is;
  }

  memory_tells : (ask : Ask) → MayRunOut t ask → Tells lawful ask (Err Memory) (cells_of size t) (cells_of size (stopped t Memory))
  unfolding MayRunOut Tells
  memory_tells (Get cell) wants = stops _ (record { away = record { unwritten = wants.0; unnoted = none-noted t.notes cell.0 wants.1 }; is = tt })
  memory_tells (Set cell value) wants = stops _ (inr refl)
  memory_tells Enter wants = stops _ (inr (wants, refl))
  memory_tells (Hook phase token) wants = stops _ refl
  memory_tells (Later token) wants = stops _ refl
  memory_tells ask wants = absurd wants

  -- The ask was refused, out of memory.
  pub refused_memory : (ask : Ask) (u : Attempt) → AwaitsAsk t → IsRefused t ask u → IsTold lawful size ask t u
  unfolding moved AwaitsAskAt
  refused_memory ask u waits refused = subst (λ (a : Attempt). IsTold lawful size ask t a) (sym refused.stops) (record {
    waits = record { stands = tt; nothing_due = waits.nothing_due };
    tells = rw (told_stopped (Stopped Memory) Memory refl) (memory_tells ask refused.wants);
  })
