-- The listing that a written schedule gives: each number lets that worker's attempt make one access, and what the access brings about follows at once. Here s is the trace so far and p a worker.
use Rattle.std.specs.Prelude.{◌≡◌, ◌^◌, ◌≤◌, max, ℕ, zero, suc, Bool, true, false, not, ◌&&◌, nat_eq, nat_lt, if◌then◌else◌, List, [], ◌∷◌, ◌++◌, length, map, filter, flat_map, drop, take, find, slice_index, unwrap_or, Option, Some, None, IsPermutation}
use Rattle.std.specs.List.{AllByRecursion, range_with_len}
use Rattle.std.specs.Option.{option_map_or, option_or}
use Rattle.stm_model.specs.Attempt.{Attempt, Due, Late, Ready, Stage, cause_at, is_in_flight}
use Rattle.stm_model.specs.Moves.{Begins, Does, EndsLate, Takes}
use Rattle.stm_model.specs.World.{Event, Moves, Steps, Terms, World, attempt_of, happened, opened, replaced}
use Rattle.stm_model.specs.declared.access.Ask.{Ask}
use Rattle.stm_model.specs.declared.access.Ask.TheVariants.{Abandon, Enter, Keep, Undo}
use Rattle.stm_model.specs.declared.cause.Cause.{Cause}
use Rattle.stm_model.specs.declared.cause.Cause.TheVariants.{ClockEnd, Retry, User}
use Rattle.stm_model.specs.declared.ending.Ending.{Ending}
use Rattle.stm_model.specs.declared.ending.Ending.TheVariants.{Committed, Read, Rolled as RolledBack}
use Rattle.stm_model.specs.declared.settings.Settings.{Settings}
use Rattle.ledger_model.specs.declared.job.Job.{Job}
use Rattle.ledger_model.specs.declared.listing.Listing.{Listing}
use Rattle.ledger_model.specs.declared.listing.Rolled.{Rolled}
use Rattle.ledger_model.specs.declared.listing.Row.{Row}
use Rattle.ledger_model.specs.declared.listing.RowResult.{RowResult}
use Rattle.ledger_model.specs.declared.listing.RowResult.TheVariants.{Done, Fail, Spent}
use Rattle.ledger_model.specs.Contents.{opening_contents}
use Rattle.ledger_model.specs.Replays.{InOrder, block_of, rolled_of, scripts_of, settled_by}
use Rattle.ledger_model.specs.Fits.{JobFits}
use Rattle.ledger_model.specs.Run.{Kept, statement_count}
use Rattle.ledger_model.specs.Talk.{Talk, Over, Says, Asks, Ends, talk}

-- how far a worker's script has come in its latest attempt: what follows the answer to its last request, its prints, how many of them there were where each open level began, the innermost first, and all that it ever printed
pub record Progress : Type 0 where
  pub rest : ℕ → Talk
  pub prints : List ℕ
  pub saved : List ℕ
  pub trail : List ℕ

-- the world, how far the workers' scripts have come in it, and the attempts that are over, as rows and as rolled lines, in the order in which they ended
pub record Trace : Type 0 where
  pub world : World
  pub progress : ℕ → Progress
  pub rows : List Row
  pub rolled : List Rolled

abbrev pub attempt_in : Trace → ℕ → Attempt
attempt_in s p = attempt_of s.world p

abbrev pub is_flying : Trace → ℕ → Bool
is_flying s p = is_in_flight (attempt_in s p)

abbrev pub happens : Event → Trace → Trace
happens event s = record s { world = happened s.world event }

-- ---- what is due

-- Handlers run, and bells are rung.
abbrev pub all_done : ℕ → List Due → Trace → Trace
all_done p [] s = s
all_done p (due ∷ dues) s = all_done p dues (happens (Moves p Does) s)

abbrev pub due_done : ℕ → Trace → Trace
due_done p s = all_done p (attempt_in s p).due s

-- ---- what a script says

abbrev pub with_progress : ℕ → Progress → Trace → Trace
with_progress p now s = record s { progress = replaced s.progress p now }

abbrev pub said : ℕ → Progress → Progress
said number now = record now { prints = now.prints ++ number ∷ []; trail = now.trail ++ number ∷ [] }

-- A level that is undone takes its prints along.
abbrev pub asked : Ask → (ℕ → Talk) → Progress → Progress
asked Enter rest now = record now { rest = rest; saved = length now.prints ∷ now.saved }
asked Keep rest now = record now { rest = rest; saved = drop 1 now.saved }
asked Undo rest now = record now { rest = rest; prints = take (slice_index now.saved 0) now.prints; saved = drop 1 now.saved }
asked ask rest now = record now { rest = rest }

-- what an attempt answers to its script, where it waits for the next request
abbrev pub answer_at : Stage → Option ℕ
answer_at (Ready told) = Some (unwrap_or told 0)
answer_at (Late token) = Some 0
answer_at stage = None

abbrev pub answer_in : Trace → ℕ → Option ℕ
answer_in s p = answer_at (attempt_in s p).stage

-- the script has made a request, and what was due then is done
abbrev pub requested : ℕ → Ask → (ℕ → Talk) → Trace → Trace
requested p ask rest s = due_done p (happens (Moves p (Takes ask)) (with_progress p (asked ask rest (s.progress p)) s))

-- a before-commit body is over, and what was due then is done
abbrev pub returned : ℕ → Talk → Trace → Trace
returned p rest s = due_done p (happens (Moves p EndsLate) (with_progress p (record (s.progress p) { rest = λ answer. rest }) s))

-- A script goes on as far as it can without an access.
abbrev pub speaks : ℕ → Talk → Trace → Trace
speaks p (Over end) s = s
speaks p (Says number rest) s = speaks p rest (with_progress p (said number (s.progress p)) s)
speaks p (Asks ask rest) s = option_map_or (λ answer. speaks p (rest answer) (requested p ask rest s)) (answer_in (requested p ask rest s) p) (requested p ask rest s)
speaks p (Ends rest) s = option_map_or (λ answer. speaks p rest (returned p rest s)) (answer_in (returned p rest s) p) (returned p rest s)

-- A script goes on with the answer to its last request, where that has come.
abbrev pub goes_on : ℕ → Trace → Trace
goes_on p s = option_map_or (λ answer. speaks p ((s.progress p).rest answer) s) (answer_in s p) s

-- Who was refused something is rolled back.
abbrev pub gives_up : ℕ → Trace → Trace
gives_up p s = option_map_or (λ cause. happens (Moves p (Takes (Abandon cause))) s) (cause_at (attempt_in s p).stage) s

-- ---- how an attempt ends

-- a row of the worker's script that is now settled
abbrev pub with_row : ℕ → (position : ℕ) → (writer : Bool) → RowResult → List ℕ → Trace → Trace
with_row p position writer result prints s = record s {
  rows = s.rows ++ record {
    position = position;
    writer = writer;
    worker = p;
    number = suc (settled_by s.rows p);
    result = result;
    prints = prints;
    runs = (attempt_in s p).now.runs;
    drawn = 0;
  } ∷ [];
}

-- a rolled line of the worker's next script
abbrev pub with_rolled : ℕ → (prefix : ℕ) → Cause → Trace → Trace
with_rolled p prefix cause s = record s {
  rolled = s.rolled ++ record {
    worker = p;
    number = suc (settled_by s.rows p);
    prefix = prefix;
    cause = cause;
    trail = (s.progress p).trail;
  } ∷ [];
}

-- A failure settles the script, and so does a clock at its limit.
abbrev pub rolled_with : Cause → ℕ → ℕ → Trace → Trace
rolled_with (User code) p prefix s = with_row p prefix false (Fail code) [] s
rolled_with (ClockEnd clock) p prefix s = with_row p prefix false Spent [] s
rolled_with cause p prefix s = with_rolled p prefix cause s

abbrev pub ended_with : Option Ending → ℕ → Trace → Trace
ended_with None p s = s
ended_with (Some (Committed stamp)) p s = with_row p stamp true Done (s.progress p).prints s
ended_with (Some (Read prefix)) p s = with_row p prefix false Done (s.progress p).prints s
ended_with (Some (RolledBack cause prefix)) p s = rolled_with cause p prefix s

-- An attempt that has made its last access is over.
abbrev pub ends : ℕ → Trace → Trace
ends p s = if is_flying s p then s else ended_with (attempt_in s p).ending p s

-- one access of the worker's attempt, and what follows it at once
abbrev pub access : ℕ → Trace → Trace
access p s = ends p (gives_up p (goes_on p (due_done p (happens (Steps p) s))))

-- ---- whose turn it is

abbrev pub has_left : Job → Trace → ℕ → Bool
has_left job s p = nat_lt (settled_by s.rows p) (length (scripts_of job p))

-- the attempt asked for a retry, and no writer has committed since its prefix
abbrev pub retried_at : Option Ending → ℕ → Bool
retried_at (Some (RolledBack Retry prefix)) clock = nat_eq prefix clock
retried_at ending clock = false

-- the worker waits for a change
abbrev pub is_parked : Trace → ℕ → Bool
is_parked s p = retried_at (attempt_in s p).ending s.world.clock

-- The worker may make a next attempt: it has a script left, isn't parked, and has made fewer attempts than it may.
abbrev pub may_begin : Job → Settings → Trace → ℕ → Bool
may_begin job settings s p = has_left job s p && not (is_parked s p) && nat_lt (attempt_in s p).serial settings.attempts

-- what a script has still to say before its first answer
abbrev pub fresh : Talk → Progress
fresh talk = record { rest = λ answer. talk; prints = []; saved = []; trail = [] }

-- the worker's next attempt, of its first script that isn't settled
abbrev pub begins : Job → Settings → ℕ → Trace → Trace
begins job settings p s =
    happens (Moves p (Begins settings)) (with_progress p (fresh (talk (block_of job p (suc (settled_by s.rows p))))) s)

-- The worker makes one access, of the attempt that it has in flight or of its next one. Where there is none, nothing happens.
abbrev pub turn : Job → Settings → ℕ → Trace → Trace
turn job settings p s = if is_flying s p then access p s else (if may_begin job settings s p then access p (begins job settings p s) else s)

-- ---- the schedule

abbrev pub turns : Job → Settings → List ℕ → Trace → Trace
turns job settings [] s = s
turns job settings (p ∷ ps) s = turns job settings ps (turn job settings p s)

abbrev pub workers_of : Job → List ℕ
workers_of job = range_with_len 1 (length job.workers)

-- Whose turn it is behind the written steps: that of the first worker with an attempt in flight, and where there is none, of the first that may begin one.
abbrev pub whose : Job → Settings → Trace → Option ℕ
whose job settings s = option_or (find (is_flying s) (workers_of job)) (find (may_begin job settings s) (workers_of job))

-- so many turns behind the written steps
unfoldable pub onward : Job → Settings → ℕ → Trace → Trace
onward job settings zero s = s
onward job settings (suc count) s = onward job settings count (option_map_or (λ p. turn job settings p s) (whose job settings s) s)

abbrev pub terms_of_job : Job → Settings → Terms
terms_of_job job settings = record { opening = (opening_contents job).refs; callers = settings.callers; limit = settings.clock }

-- Nobody has begun.
abbrev pub opening_trace : Job → Settings → Trace
opening_trace job settings = record { world = opened (terms_of_job job settings) settings; progress = λ p. fresh (Over Kept); rows = []; rolled = [] }

-- ---- which jobs

-- The job is within the limits and has no maps and no slots, none of its scripts has more than 2 ^ 32 statements, and each worker is a caller. Where there is no worker there is one caller.
pub record MayBeTraced (job : Job) (settings : Settings) : Type 0 where
  pub fits : JobFits job
  pub maps : job.maps ≡ 0
  pub snaps : job.snaps ≡ 0
  pub statements : AllByRecursion (λ scripts. AllByRecursion (λ script. statement_count script.block ≤ 2 ^ 32) scripts) job.workers
  pub callers : settings.callers ≡ max (length job.workers) 1

-- ---- the listing

-- the first script that isn't settled, of each worker that has one left and passes the test
abbrev pub left_where : Job → Trace → (ℕ → Bool) → List (ℕ × ℕ)
left_where job s test = map (λ p. (p, suc (settled_by s.rows p))) (filter (λ p. has_left job s p && test p) (workers_of job))

-- what the references hold
abbrev pub refs_in : Job → World → List ℕ
refs_in job w = map (λ cell. w.value cell) (range_with_len 0 job.refs)

-- The listing of a trace: its rows in their order, its rolled lines by worker, the workers that are parked and those that are worn, and what the references hold.
pub record IsListed (job : Job) (s : Trace) (listing : Listing) : Type 0 where
  pub rows : IsPermutation s.rows listing.rows
  pub in_order : InOrder listing.rows
  pub rolled : listing.rolled ≡ flat_map (λ p. rolled_of p s.rolled) (workers_of job)
  pub blocked : listing.blocked ≡ left_where job s (is_parked s)
  pub worn : listing.worn ≡ left_where job s (λ p. not (is_parked s p))
  pub contents : listing.contents ≡ record (opening_contents job) { refs = refs_in job s.world }

-- The listing to which the job's schedule leads: some number of turns behind its steps it is nobody's turn.
pub record IsTraced (job : Job) (settings : Settings) (listing : Listing) : Type 0 where
  pub count : ℕ
  pub last : Trace
  pub reached : onward job settings count (turns job settings job.steps (opening_trace job settings)) ≡ last
  pub over : whose job settings last ≡ None
  pub listed : IsListed job last listing
