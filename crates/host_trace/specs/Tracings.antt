-- Private: a job on its way beside a trace. Here t is a job on its way, p a worker, c and d are simulations, before and after, and s is a trace.
use Rattle.std.specs.Prelude.{◌≡◌, ℕ, suc, ◌-◌, ◌<◌, ◌≤◌, Bool, not, if◌then◌else◌, IsTrue, MatchOption, List, [], length, map, slice_index_or, None}
use Rattle.std.specs.List.{range_with_len}
use Rattle.stm_model.specs.declared.law.Free.{Free}
use Rattle.stm_model.specs.declared.settings.Settings.{Settings}
use Rattle.ledger_model.specs.declared.job.Job.{Job}
use Rattle.ledger_model.specs.declared.listing.Row.{Row}
use Rattle.ledger_model.specs.declared.script.Script.{Script}
use Rattle.ledger_model.specs.Replays.{block_of, rolled_of, rows_of, settled_by}
use Rattle.ledger_model.specs.Traced.{MayBeTraced, Trace, attempt_in as traced_attempt, begins, has_left, is_parked, onward, opening_trace, whose}
use Rattle.world_run.specs.Simulation.{Simulation, HasSameTerms, IsOver, attempt_in}
use Rattle.host_trace.specs.declared.flight.Flight.{Flight}
use Rattle.host_trace.specs.declared.said.Said.{Said}
use Rattle.host_trace.specs.declared.trace.Tracing.{Tracing}
use Rattle.host_trace.specs.declared.worker.Worker.{Worker}
use Rattle.host_trace.specs.Flights.{AwaitsIn, Flies, ShowsWorld}
use Rattle.host_trace.specs.Tellings.{IsTold}

-- ---- a worker

-- It has made no attempt yet.
pub record IsNew (worker : Worker) : Type 0 where
  pub settled : worker.settled ≡ 0
  pub attempts : worker.attempts ≡ 0
  pub flight : worker.flight ≡ None
  pub rolled : worker.rolled.items ≡ []

-- These are the trace's rows. So many of the worker's scripts are settled, and these are its rolled lines.
pub record Lists (p : ℕ) (listed : List Row) (worker : Worker) (s : Trace) : Type 0 where
  pub rows : s.rows ≡ listed
  pub settled : settled_by s.rows p ≡ worker.settled
  pub rolled : rolled_of p s.rolled ≡ worker.rolled.items

-- It is followed, it makes an access next, and its worker has a script left.
pub record IsFlight (job : Job) (p : ℕ) (c : Simulation Free) (s : Trace) (flight : Flight) : Type 0 where
  pub awaits : AwaitsIn p c flight s
  pub flies : Flies p c flight
  pub left : IsTrue (has_left job s p)

-- The worker has made so many attempts. Its latest one is in flight, or else it is over.
pub record Works (job : Job) (p : ℕ) (c : Simulation Free) (rows : List Row) (worker : Worker) (s : Trace) : Type 0 where
  pub shows : ShowsWorld c s.world
  pub lists : Lists p rows worker s
  pub attempts : (attempt_in c p).serial ≡ worker.attempts
  pub flight : MatchOption worker.flight (IsOver (attempt_in c p)) (IsFlight job p c s)

-- Whatever trace the worker is in, this makes one of it that it is in afterwards.
pub record WorksOn (p : ℕ) (c d : Simulation Free) (rows rest : List Row) (worker after : Worker) (this : Trace → Trace) : Type 0 where
  pub terms : HasSameTerms c d
  pub works : (job : Job) (s : Trace) → Works job p c rows worker s → Works job p d rest after (this s)

-- The worker's next attempt has begun, of this script, where that is its first that isn't settled.
pub record BeginsOn (p : ℕ) (script : Script) (c d : Simulation Free) (worker after : Worker) : Type 0 where
  pub terms : HasSameTerms c d
  pub works : (job : Job) (rows : List Row) (s : Trace) → IsTrue (has_left job s p) → block_of job p (suc (settled_by s.rows p)) ≡ script.block
      → Works job p c rows worker s → Works job p d rows after (begins job c.settings p s)

-- ---- how its attempt ends

-- These handlers have run in its latest attempt.
abbrev pub HasRun : ℕ → Said → Trace → Type 0
HasRun p said s = (traced_attempt s p).now.runs ≡ said.runs.items

-- And this it has said.
pub record HasSaid (p : ℕ) (said : Said) (s : Trace) : Type 0 where
  pub told : IsTold said (s.progress p)
  pub runs : HasRun p said s

-- Where this was said, one script more is settled, or one attempt more was rolled back. All else stays with the worker.
pub record ListsOn (p : ℕ) (Says : Trace → Type 0) (rows rest : List Row) (worker after : Worker) (this : Trace → Trace) : Type 0 where
  pub attempts : after.attempts ≡ worker.attempts
  pub flight : after.flight ≡ worker.flight
  pub lists : (s : Trace) → Says s → Lists p rows worker s → Lists p rest after (this s)

-- ---- the whole

abbrev pub IsWorker : Job → ℕ → Type 0
IsWorker job p = (0 < p) × (p ≤ length job.workers)

-- the worker of this number, where there is one, and else this one
abbrev pub worker_at : Tracing → ℕ → Worker → Worker
worker_at t p other = slice_index_or t.workers.items (p - 1) other

-- The numbers of each worker's rows count up from 1.
abbrev pub AreNumbered : List Row → Type 0
AreNumbered rows = (p : ℕ) → map (λ row. row.number) (rows_of p rows) ≡ range_with_len 1 (settled_by rows p)

-- The job has come as far as the trace tells.
pub record Traces (t : Tracing) (s : Trace) : Type 0 where
  pub may : MayBeTraced t.job.now t.settings
  pub opening : length t.simulation.opening ≡ t.job.now.refs
  pub settings : t.simulation.settings ≡ t.settings
  pub shows : ShowsWorld t.simulation s.world
  pub rows : s.rows ≡ t.rows
  pub numbered : AreNumbered s.rows
  pub workers : length t.workers.items ≡ length t.job.now.workers
  pub works : (p : ℕ) (other : Worker) → IsWorker t.job.now p → Works t.job.now p t.simulation t.rows (worker_at t p other) s

-- The whole job lies ahead.
pub record Starts (from : Job) (by : Settings) (t : Tracing) : Type 0 where
  pub job : t.job.now ≡ from
  pub settings : t.settings ≡ by
  pub traces : Traces t (opening_trace from by)

-- There is such a trace.
pub record IsTracing (t : Tracing) : Type 0 where
  pub trace : Trace
  pub traces : Traces t trace

-- Whatever trace tells how far the job has come, this makes of it one that tells so afterwards.
pub record TracesOn (t after : Tracing) (this : Trace → Trace) : Type 0 where
  pub job : after.job ≡ t.job
  pub settings : after.settings ≡ t.settings
  pub traces : (s : Trace) → Traces t s → Traces after (this s)

-- So many turns behind this trace the job has come as far as that.
pub record ComesTo (t : Tracing) (job : Job) (s : Trace) : Type 0 where
  pub count : ℕ
  pub traces : Traces t (onward job t.settings count s)

-- Whatever trace told how far the job has come, some turns behind it one tells so afterwards.
pub record GoesOn (t after : Tracing) : Type 0 where
  pub job : after.job ≡ t.job
  pub settings : after.settings ≡ t.settings
  pub comes : (s : Trace) → Traces t s → ComesTo after t.job.now s

-- It is nobody's turn.
abbrev pub IsOverAll : Tracing → Type 0
IsOverAll t = (s : Trace) → Traces t s → whose t.job.now t.settings s ≡ None

-- The worker is parked, or it isn't, as is asked.
abbrev pub parked_so : Trace → Bool → ℕ → Bool
parked_so s parked p = if parked then is_parked s p else not (is_parked s p)
