-- What is due is done.
use Rattle.std.proofs.Common.{◌≡◌, ℕ, Bool, true, false, List, [], ◌∷◌, ◌++◌, Option, Some, None, refl, sym, subst, append_assoc, ◌∙◌}
use Rattle.stm_model.specs.declared.cause.Cause.{Cause}
use Rattle.stm_model.specs.declared.cause.Cause.TheVariants.{ClockEnd, Retry, User}
use Rattle.stm_model.specs.declared.ending.Ending.{Ending}
use Rattle.stm_model.specs.declared.ending.Ending.TheVariants.{Committed, Read, Rolled}
use Rattle.stm_model.specs.Attempt.{Attempt, Due, Run, Ring, Stage, Announce, Begin, Ready, Late, Stopped, ReadMeta, ExtendClock, ExtendNote, ReadValue, Validate, AcquireMeta, Acquire, OwnerStatus, OwnerMeta, DoomOwner, ReleaseLevel, Prepare, Mark, CommitClock, CommitNote, Decide}
use Rattle.stm_model.specs.CellsState.{outer, restored}
use Rattle.stm_model.specs.Handlers.{Handlers}
use Rattle.stm_model.specs.HandlerRuns.{due_runs}
use Rattle.stm_model.specs.Moves.{did_first}
use Rattle.ledger_model.specs.declared.job.Contents.{Contents}
use Rattle.ledger_model.specs.declared.script.Statement.{Statement}
use Rattle.ledger_model.specs.Run.{End, Kept}
use Rattle.ledger_model.specs.Talk.{Talk}
use Rattle.ledger_model.specs.Traced.{Progress}
use Rattle.trace_laws.proofs.Told.{Closes, ClosesKept, ClosesSo, GoesOn, GoesOnHere, IsTold, RollsBackSo, ToldAt}
use Rattle.trace_laws.proofs.Requests.{of_attempt}

module _ (base : Contents) (block : List Statement) (t : Attempt) (g : Progress) (runs : Handlers) (rings : List ℕ) (dues : List Due) (same : runs ++ due_runs dues ≡ t.now.runs ++ due_runs t.due) where
  -- some of what was due is done
  abbrev did : Attempt
  did = record t { now = record t.now { runs = runs }; rings = rings; due = dues }

  goes : (this : Talk) → GoesOnHere base block t this g → GoesOnHere base block did this g
  goes this h =
      subst (λ (all : Handlers). GoesOn base block did this (record t.now { runs = all }) t.saved g) (sym same)
      (of_attempt base block t did this (record t.now { runs = t.now.runs ++ due_runs t.due }) t.saved g g.rest refl refl h)

  undoes : (this : Talk) → GoesOn base block t this (restored t.saved (record t.now { runs = t.now.runs ++ due_runs t.due })) (outer t.saved) g
      → GoesOn base block did this (restored t.saved (record t.now { runs = runs ++ due_runs dues })) (outer t.saved) g
  undoes this h =
      subst (λ (all : Handlers). GoesOn base block did this (restored t.saved (record t.now { runs = all })) (outer t.saved) g) (sym same)
      (of_attempt base block t did this (restored t.saved (record t.now { runs = t.now.runs ++ due_runs t.due })) (outer t.saved) g g.rest refl refl h)

  closing : (prepared : Bool) (end : End) → Closes base block t prepared end g → Closes base block did prepared end g
  closing prepared end h = record {
    former = h.former;
    ends = record { stands = h.ends.stands; phase = h.ends.phase; registered = h.ends.registered; runs = same ∙ h.ends.runs };
    comes = h.comes;
  }

  kept : ClosesKept base block t g → ClosesKept base block did g
  kept h = (h.0, closing h.0 Kept h.1)

  rolled : (cause : Cause) → RollsBackSo base block t g cause → RollsBackSo base block did g cause
  unfolding RollsBackSo
  rolled (User code) h = closing false _ h
  rolled Retry h = closing false _ h
  rolled (ClockEnd clock) h = (closing true Kept h.0, h.1, h.2)
  rolled cause h = h

  ended : (ending : Option Ending) → ClosesSo base block t g ending → ClosesSo base block did g ending
  unfolding ClosesSo
  ended None h = h
  ended (Some (Committed stamp)) h = (kept h.0, h.1)
  ended (Some (Read prefix)) h = (kept h.0, h.1)
  ended (Some (Rolled cause prefix)) h = rolled cause h

  pub stays : (stage : Stage) → ToldAt base block t g stage → ToldAt base block did g stage
  unfolding ToldAt
  stays Announce h = (goes (g.rest 0) h.0, h.1)
  stays Begin h = goes _ h
  stays (Ready told) h = goes _ h
  stays (Late token) h = goes _ h
  stays (Stopped cause) h = h
  stays (ReadMeta cell left) h = goes _ h
  stays (ExtendClock cell left first) h = goes _ h
  stays (ExtendNote cell left first clock note behind) h = goes _ h
  stays (ReadValue cell left first) h = goes _ h
  stays (Validate cell left first value) h = goes _ h
  stays (AcquireMeta cell value left tried) h = goes _ h
  stays (Acquire cell value left tried first expected again) h = goes _ h
  stays (OwnerStatus cell value left first) h = goes _ h
  stays (OwnerMeta cell value left first status) h = goes _ h
  stays (DoomOwner cell value left first second status) h = goes _ h
  stays (ReleaseLevel keep write behind) h = undoes _ h
  stays Prepare h = kept h
  stays (Mark write behind) h = kept h
  stays (CommitClock lost) h = kept h
  stays (CommitNote lost clock note behind) h = kept h
  stays (Decide lost clock) h = kept h
  stays stage h = ended t.ending h

does_at : (base : Contents) (block : List Statement) (t : Attempt) (g : Progress) (dues : List Due)
    → IsTold base block (record t { due = dues }) g → IsTold base block (did_first (record t { due = dues }) dues) g
does_at base block t g [] h = h
does_at base block t g (Run phase token ∷ dues) h =
    stays base block (record t { due = Run phase token ∷ dues }) g (t.now.runs ++ (phase, token) ∷ []) t.rings dues (append_assoc t.now.runs ((phase, token) ∷ []) (due_runs dues)) t.stage h
does_at base block t g (Ring cell ∷ dues) h =
    stays base block (record t { due = Ring cell ∷ dues }) g t.now.runs (t.rings ++ cell ∷ []) dues refl t.stage h

-- What is due first is done.
pub does : (base : Contents) (block : List Statement) (t : Attempt) (g : Progress) → IsTold base block t g → IsTold base block (did_first t t.due) g
does base block t g h = does_at base block t g t.due h
