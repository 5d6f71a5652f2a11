-- How a worker stands, by the trace that tells how far the job has come. Here t is the job on its way, p a worker, c a simulation and s a trace.
use Rattle.std.proofs.Common.{◌≡◌, ℕ, ◌+◌, ◌-◌, ◌^◌, ◌<◌, ◌≤◌, max, true, false, IsTrue, List, [], ◌∷◌, length, get_or, Option, Some, None, is_some, refl, ap, sym, subst, ◌∙◌, arith}
use Rattle.std.specs.Option.{IsSomeAnd, MatchOption}
use Rattle.std.proofs.lemmas.Bool.Decides.{nat_tests}
use Rattle.std.proofs.lemmas.List.Elements.{All-from_recursion}
use Rattle.stm_core.specs.Machine.{after_due, next_of, over, standing}
use Rattle.stm_core.specs.declared.next.Next.{Next}
use Rattle.stm_model.specs.Attempt.{Attempt, Due, Stage, flies_at}
use Rattle.stm_model.specs.World.{IsCaller}
use Rattle.stm_model.specs.declared.ending.Ending.{Ending}
use Rattle.stm_model.specs.declared.settings.Settings.{Settings}
use Rattle.ledger_model.specs.Fits.{WorkerFits, places}
use Rattle.ledger_model.specs.Limits.{most_scripts}
use Rattle.ledger_model.specs.Replays.{scripts_of, settled_by}
use Rattle.ledger_model.specs.Traced.{Trace, attempt_in as traced_attempt, has_left, is_flying, is_parked, retried_at}
use Rattle.world_run.specs.Simulation.{IsOver, attempt_in, terms_in}
use Rattle.host_trace.specs.declared.flight.Flight.{Flight}
use Rattle.host_trace.specs.declared.trace.Tracing.{Tracing}
use Rattle.host_trace.specs.declared.worker.Worker.{Worker}
use Rattle.host_trace.specs.Flights.{Flies}
use Rattle.host_trace.specs.Tellings.{told_ending}
use Rattle.host_trace.specs.Tracings.{IsFlight, IsWorker, Traces, Works, worker_at}
use Rattle.host_trace.proofs.Workers.{ended_not, makes_flies}

one_of : {X : Type 0} (xs : List X) → 0 < length xs → X
one_of [] some = absurd (omega arith)
one_of (x ∷ xs) some = x

module _ {t : Tracing} {s : Trace} (traces : Traces t s) {p : ℕ} (within : IsWorker t.job.now p) where
  pub caller : IsCaller (terms_in t.simulation) p
  caller =
      let callers : t.simulation.settings.callers ≡ max (length t.job.now.workers) 1 = ap (λ (settings : Settings). settings.callers) traces.settings ∙ traces.may.callers in
      (within.0, omega (arith, callers, within.1))

  pub same_attempt : traced_attempt s p ≡ attempt_in t.simulation p
  same_attempt = traces.shows.attempts p caller

  -- where the worker is read
  pub works_there : (worker : Worker) → worker ≡ get_or t.workers.items (p - 1) worker → Works t.job.now p t.simulation t.rows worker s
  works_there worker is = subst (λ (worker : Worker). Works t.job.now p t.simulation t.rows worker s) (sym is) (traces.works p worker within)

  flying_by : (flight : Option Flight) → MatchOption flight (IsOver (attempt_in t.simulation p)) (IsFlight t.job.now p t.simulation s) → is_some flight ≡ flies_at (attempt_in t.simulation p).stage
  flying_by None over = sym (ended_not (attempt_in t.simulation p).stage over.ended)
  flying_by (Some flight) here = sym (makes_flies (attempt_in t.simulation p) here.flies.makes)

  pub flying_is : (worker : Worker) → worker ≡ get_or t.workers.items (p - 1) worker → is_some worker.flight ≡ is_flying s p
  flying_is worker is = flying_by worker.flight (works_there worker is).flight ∙ ap (λ (t : Attempt). flies_at t.stage) (sym same_attempt)

  over_by : (flight : Option Flight) → MatchOption flight (IsOver (attempt_in t.simulation p)) (IsFlight t.job.now p t.simulation s)
      → is_flying s p ≡ false → IsOver (attempt_in t.simulation p)
  over_by None over rests = over
  over_by (Some flight) here rests = absurd (
      let flies = makes_flies (attempt_in t.simulation p) here.flies.makes in
      let same : is_flying s p ≡ flies_at (attempt_in t.simulation p).stage = ap (λ (t : Attempt). flies_at t.stage) same_attempt in
      cc
      )

  -- Whose attempt isn't in flight, its latest one is over.
  pub over_there : is_flying s p ≡ false → IsOver (attempt_in t.simulation p)
  over_there rests =
      let other = one_of t.workers.items (omega (arith, traces.workers, within.0, within.1)) in
      over_by (worker_at t p other).flight (traces.works p other within).flight rests

  flies_by : (flight : Option Flight) → MatchOption flight (IsOver (attempt_in t.simulation p)) (IsFlight t.job.now p t.simulation s)
      → is_flying s p ≡ true → IsSomeAnd flight (IsFlight t.job.now p t.simulation s)
  flies_by None over flies = absurd (
      let rests = ended_not (attempt_in t.simulation p).stage over.ended in
      let same : is_flying s p ≡ flies_at (attempt_in t.simulation p).stage = ap (λ (t : Attempt). flies_at t.stage) same_attempt in
      cc
      )
  flies_by (Some flight) here flies = here

  flies_alone : (flight : Option Flight) → IsSomeAnd flight (IsFlight t.job.now p t.simulation s) → IsSomeAnd flight (Flies p t.simulation)
  flies_alone None here = here
  flies_alone (Some flight) here = here.flies

  left_alone : (flight : Option Flight) → IsSomeAnd flight (IsFlight t.job.now p t.simulation s) → IsTrue (has_left t.job.now s p)
  left_alone None here = absurd here
  left_alone (Some flight) here = here.left

  pub flies_there : (worker : Worker) → worker ≡ get_or t.workers.items (p - 1) worker → is_flying s p ≡ true → IsSomeAnd worker.flight (Flies p t.simulation)
  flies_there worker is flies = flies_alone worker.flight (flies_by worker.flight (works_there worker is).flight flies)

  pub script_counts : length (scripts_of t.job.now p) ≤ most_scripts
  script_counts =
      let each = All-from_recursion (WorkerFits (places t.job.now)) t.job.now.workers traces.may.fits.scripts in
      (each (p - 1) [] (omega (arith, within.0, within.1))).0

  -- Whose script is left has room for one more.
  pub room_where : (worker : Worker) → worker ≡ get_or t.workers.items (p - 1) worker → IsTrue (has_left t.job.now s p) → worker.settled + 1 < 2 ^ 32
  room_where worker is left =
      let settled = (works_there worker is).lists.settled in
      let less : settled_by s.rows p < length (scripts_of t.job.now p) = grind (arith, nat_tests) in
      omega (arith, settled, less, script_counts)

  pub room_there : (worker : Worker) → worker ≡ get_or t.workers.items (p - 1) worker → is_flying s p ≡ true → worker.settled + 1 < 2 ^ 32
  room_there worker is flies = room_where worker is (left_alone worker.flight (flies_by worker.flight (works_there worker is).flight flies))

  over_told : (ending : Option Ending) → told_ending (over ending) ≡ ending
  over_told None = refl
  over_told (Some ending) = refl

  ending_told : (t : Attempt) → IsOver t → told_ending (next_of t) ≡ t.ending
  unfolding after_due standing
  ending_told t is =
      ap (λ (dues : List Due). told_ending (after_due dues (standing t t.stage))) is.nothing_due
      ∙ ap (λ (stage : Stage). told_ending (standing t stage)) is.ended ∙ over_told t.ending

  -- Where no ending is told the worker isn't parked.
  pub parked_not : is_flying s p ≡ false → (next : Option Next) → next ≡ next_of (attempt_in t.simulation p)
      → told_ending next ≡ None → false ≡ is_parked s p
  parked_not rests next told none =
      let ends : (traced_attempt s p).ending ≡ None =
      ap (λ (t : Attempt). t.ending) same_attempt ∙ sym (ending_told (attempt_in t.simulation p) (over_there rests)) ∙ ap told_ending (sym told) ∙ none in
      sym (ap (λ (ending : Option Ending). retried_at ending s.world.clock) ends)
