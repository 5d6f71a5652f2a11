-- Which handlers run while an attempt ends, and while a level is undone, step by step. Here t is an attempt.
use Rattle.std.specs.Prelude.{◌≡◌, ℕ, Bool, true, false, ◌||◌, if◌then◌else◌, List, [], ◌∷◌, ◌++◌, Option, Some, None}
use Rattle.stm_model.specs.declared.ending.Ending.{Ending}
use Rattle.stm_model.specs.declared.ending.Ending.TheVariants.{Rolled}
use Rattle.stm_model.specs.Accesses.{Answer}
use Rattle.stm_model.specs.After.{after}
use Rattle.stm_model.specs.Attempt.{Attempt, Due, Run, Ring, Stage, Ready, ReleaseLevel, Prepare, Mark, CommitClock, CommitNote, Decide, StoreValues, Release, RollBack, Close, Ended, cells_of, has_prepared}
use Rattle.stm_model.specs.CellsState.{CellsState, undone}
use Rattle.stm_model.specs.Handlers.{Handlers, committing, completing, failing, preparing}
use Rattle.stm_model.specs.Moves.{did_first}

-- the handlers among what is due
abbrev pub due_runs : List Due → Handlers
due_runs [] = []
due_runs (Run phase token ∷ dues) = (phase, token) ∷ due_runs dues
due_runs (Ring cell ∷ dues) = due_runs dues

-- ---- steps

-- A step of an attempt that isn't asked anything: its next access finds this, or what is due first is done.
pub data Step : Type 0 where
  Finds : (answer : Answer) → Step
  DoesDue : Step

-- An access comes only where nothing is due.
abbrev pub found_unless_due : Attempt → List Due → Answer → Attempt
found_unless_due t [] answer = after t answer
found_unless_due t (due ∷ dues) answer = t

unfoldable pub stepped : Attempt → Step → Attempt
stepped t (Finds answer) = found_unless_due t t.due answer
stepped t DoesDue = did_first t t.due

-- an attempt after some steps
abbrev pub led : Attempt → List Step → Attempt
led t [] = t
led t (step ∷ steps) = led (stepped t step) steps

-- It has begun to prepare, now or at one of these steps.
abbrev pub prepares_by : Attempt → List Step → Bool
prepares_by t [] = has_prepared t.phase
prepares_by t (step ∷ steps) = has_prepared t.phase || prepares_by (stepped t step) steps

-- ---- the end of an attempt

abbrev pub is_rolled : Option Ending → Bool
is_rolled (Some (Rolled cause prefix)) = true
is_rolled _ = false

-- All that runs at the end, of who had begun to prepare or not, and ended so.
abbrev pub ended_runs : Bool → Option Ending → Handlers → Handlers
ended_runs prepared ending hooks = if is_rolled ending then failing prepared hooks else completing hooks

-- The part of it that runs before its last access.
abbrev pub open_runs : Bool → Option Ending → Handlers → Handlers
open_runs prepared ending hooks =
    if is_rolled ending then (if prepared then preparing hooks else []) else preparing hooks ++ committing hooks

-- The part of it that has run or is due where it stands.
unfoldable pub runs_at : Bool → Option Ending → Stage → Handlers → Handlers
runs_at prepared ending (StoreValues write behind) hooks = preparing hooks ++ committing hooks
runs_at prepared ending (Release write behind) hooks = preparing hooks ++ committing hooks
runs_at prepared ending Close hooks = open_runs prepared ending hooks
runs_at prepared ending Ended hooks = ended_runs prepared ending hooks
runs_at prepared ending _ hooks = if prepared then preparing hooks else []

-- It stands within its end.
unfoldable pub EndsAt : Bool → Option Ending → Stage → Type 0
EndsAt prepared ending Prepare = prepared ≡ false
EndsAt prepared ending (Mark write behind) = prepared ≡ true
EndsAt prepared ending (CommitClock lost) = prepared ≡ true
EndsAt prepared ending (CommitNote lost clock note behind) = prepared ≡ true
EndsAt prepared ending (Decide lost clock) = prepared ≡ true
EndsAt prepared ending (StoreValues write behind) = is_rolled ending ≡ false
EndsAt prepared ending (Release write behind) = is_rolled ending ≡ false
EndsAt prepared ending (RollBack write behind) = is_rolled ending ≡ true
EndsAt prepared ending Close = Unit {0}
EndsAt prepared ending Ended = Unit {0}
EndsAt prepared ending _ = ⊥

-- It is ending, or has ended, with these handlers registered. Those that had run at the begin of its end come first, and then those that have run or are due since. `prepared` says whether it has begun to prepare.
pub record Ends (former hooks : Handlers) (prepared : Bool) (t : Attempt) : Type 0 where
  pub stands : EndsAt prepared t.ending t.stage
  pub phase : has_prepared t.phase ≡ true → prepared ≡ true
  pub registered : t.now.hooks ≡ hooks
  pub runs : t.now.runs ++ due_runs t.due ≡ former ++ runs_at prepared t.ending t.stage hooks

-- ---- the undo of a level

-- what the cells tell once all that is due is done
abbrev pub cells_then : ℕ → Attempt → CellsState
cells_then size t = record (cells_of size t) { now = record t.now { runs = t.now.runs ++ due_runs t.due } }

-- It is undoing the innermost level of these cells, or has undone it but for the handlers that are due.
pub data Undoes (size : ℕ) (before : CellsState) (t : Attempt) : Type 0 where
  releases : (kept behind : List (ℕ × ℕ)) (write : ℕ × ℕ) → t.stage ≡ ReleaseLevel kept write behind → due_runs t.due ≡ [] → cells_of size t ≡ before → Undoes size before t
  runs_left : t.stage ≡ Ready None → cells_then size t ≡ undone before → Undoes size before t
