-- A job from its start to its listing. Here t is the job on its way, p a worker and s a trace.
use Rattle.std.proofs.Common.{◌≡◌, ℕ, ◌-◌, max, List, [], length, Option, refl, ap, sym, subst, ◌∙◌, arith, Bor}
use Rattle.std.specs.List.{All}
use Rattle.std.specs.Option.{MatchOption}
use Rattle.stm_model.specs.Attempt.{Attempt, no_attempt}
use Rattle.stm_model.specs.World.{IsCaller, Terms, opened}
use Rattle.stm_model.specs.declared.settings.Settings.{Settings}
use Rattle.ledger_model.specs.declared.job.Job.{Job}
use Rattle.ledger_model.specs.declared.listing.Listing.{Listing}
use Rattle.ledger_model.specs.Contents.{opening_contents}
use Rattle.ledger_model.specs.Traced.{IsListed, IsTraced, MayBeTraced, Trace, onward, opening_trace, terms_of_job, turns, whose}
use Rattle.ledger_model.proofs.Listed.{listed_sized}
use Rattle.world_run.specs.Simulation.{IsOver, attempt_in, terms_in}
use Rattle.host_trace.specs.declared.flight.Flight.{Flight}
use Rattle.host_trace.specs.declared.trace.Tracing.{Tracing}
use Rattle.host_trace.specs.declared.worker.Worker.{Worker}
use Rattle.host_trace.specs.Flights.{ShowsWorld}
use Rattle.host_trace.specs.Tracings.{GoesOn, IsFlight, IsNew, IsOverAll, IsTracing, IsWorker, Starts, Traces, TracesOn, Works, worker_at}

pub opening_size : (job : Job) → length (opening_contents job).refs ≡ job.refs
opening_size job = (listed_sized job [] 0).0

-- ---- the start

module _ (t : Tracing) (may : MayBeTraced t.job.now t.settings) (opening : t.simulation.opening ≡ (opening_contents t.job.now).refs) (settings : t.simulation.settings ≡ t.settings)
    (shows : ShowsWorld t.simulation (opened (terms_in t.simulation) t.settings)) (count : length t.workers.items ≡ length t.job.now.workers) (new : All IsNew t.workers.items)
    (rows : t.rows ≡ []) where
  same_terms : terms_in t.simulation ≡ terms_of_job t.job.now t.settings
  same_terms = λ i. record { opening = opening i; callers = (settings i).callers; limit = (settings i).clock }

  abbrev start : Trace
  start = opening_trace t.job.now t.settings

  shows_start : ShowsWorld t.simulation start.world
  shows_start = subst (λ (terms : Terms). ShowsWorld t.simulation (opened terms t.settings)) same_terms shows

  works_new : (p : ℕ) (worker : Worker) → IsWorker t.job.now p → IsNew worker → Works t.job.now p t.simulation t.rows worker start
  works_new p worker within fresh =
      let callers : t.simulation.settings.callers ≡ max (length t.job.now.workers) 1 = ap (λ (settings : Settings). settings.callers) settings ∙ may.callers in
      let caller : IsCaller (terms_in t.simulation) p = (within.0, omega (arith, callers, within.1)) in
      let attempt : no_attempt p t.settings ≡ attempt_in t.simulation p = shows_start.attempts p caller in
      let over : IsOver (attempt_in t.simulation p) = subst IsOver attempt (record { ended = refl; nothing_due = refl }) in
      record {
        shows = shows_start;
        lists = record { rows = sym rows; settled = sym fresh.settled; rolled = sym fresh.rolled };
        attempts = ap (λ (t : Attempt). t.serial) (sym attempt) ∙ sym fresh.attempts;
        flight = subst (λ (flight : Option Flight). MatchOption flight (IsOver (attempt_in t.simulation p)) (IsFlight t.job.now p t.simulation start)) (sym fresh.flight) over;
      }

  pub starts : Traces t start
  starts = record {
    may = may;
    opening = ap (λ (list : List ℕ). length list) opening ∙ opening_size t.job.now;
    settings = settings;
    shows = shows_start;
    rows = sym rows;
    numbered = λ p. refl;
    workers = count;
    works = λ p other within. works_new p (worker_at t p other) within (new (p - 1) other (omega (arith, count, within.0, within.1)));
  }

-- ---- the whole

module _ {from : Job} {by : Settings} {t u : Tracing} (start : Starts from by t) (steps : TracesOn t u (turns t.job.now t.settings t.job.now.steps)) where
  pub tracing_begun : IsTracing t
  tracing_begun = record { trace = opening_trace from by; traces = start.traces }

  pub tracing_behind : IsTracing u
  tracing_behind = record { trace = _; traces = steps.traces (opening_trace from by) start.traces }

  module _ {last : Tracing} (goes : GoesOn u last) (over : IsOverAll last) (listing : Listing) (listed : (s : Trace) → Traces last s → IsListed last.job.now s listing) where
    pub traced : IsTraced from by listing
    traced =
        let begun = turns t.job.now t.settings t.job.now.steps (opening_trace from by) in
        let come = goes.comes begun (steps.traces (opening_trace from by) start.traces) in
        let job : last.job.now ≡ from = ap (λ (job : Bor Job). job.now) (goes.job ∙ steps.job) ∙ start.job in
        let settings : last.settings ≡ by = goes.settings ∙ steps.settings ∙ start.settings in
        let first : u.job.now ≡ from = ap (λ (job : Bor Job). job.now) steps.job ∙ start.job in
        let end = onward u.job.now last.settings come.count begun in
        record {
          count = come.count;
          last = end;
          reached =
              sym (ap (λ (job : Job). onward job last.settings come.count begun) first ∙ ap (λ (settings : Settings). onward from settings come.count begun) settings
              ∙ ap (λ (job : Job). onward from by come.count (turns job t.settings job.steps (opening_trace from by))) start.job
              ∙ ap (λ (settings : Settings). onward from by come.count (turns from settings from.steps (opening_trace from by))) start.settings);
          over = ap (λ (job : Job). whose job by end) (sym job) ∙ ap (λ (settings : Settings). whose last.job.now settings end) (sym settings) ∙ over end come.traces;
          listed = subst (λ (job : Job). IsListed job end listing) job (listed end come.traces);
        }
