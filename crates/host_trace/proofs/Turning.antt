-- What a turn of one worker makes of a job on its way. Here t is the job on its way, p the worker, c and d are simulations, before and after, and s and u are traces.
use Rattle.std.proofs.Common.{◌≡◌, ◌≢◌, inl, inr, ℕ, ◌-◌, ◌<◌, nat_lt, List, length, get_or, set, Option, Some, None, IsSome, refl, ap, sym, subst, ◌∙◌, arith}
use Rattle.std.specs.Option.{MatchOption}
use Rattle.std.proofs.lemmas.Bool.{cases_eq}
use Rattle.std.proofs.lemmas.List.{get_or-set_other, get_or-set_same, length-set}
use Rattle.stm_core.specs.Machine.{Machine}
use Rattle.stm_model.specs.Accesses.{next, next_at}
use Rattle.stm_model.specs.Attempt.{Attempt}
use Rattle.stm_model.specs.World.{IsCaller}
use Rattle.stm_model.specs.declared.law.Free.{Free}
use Rattle.stm_model.specs.declared.settings.Settings.{Settings}
use Rattle.ledger_model.specs.declared.job.Job.{Job}
use Rattle.ledger_model.specs.declared.listing.Row.{Row}
use Rattle.ledger_model.specs.Replays.{scripts_of, settled_by}
use Rattle.ledger_model.specs.Traced.{Progress, Trace, access}
use Rattle.world_run.specs.Simulation.{Simulation, HasSameTerms, IsOver, attempt_in, latest, machine_at, terms_in}
use Rattle.world_run.proofs.Seats.{caller_then}
use Rattle.host_trace.specs.declared.flight.Flight.{Flight}
use Rattle.host_trace.specs.declared.trace.Tracing.{Tracing}
use Rattle.host_trace.specs.declared.worker.Worker.{Worker}
use Rattle.host_trace.specs.Flights.{ShowsWorld}
use Rattle.host_trace.specs.Tellings.{IsTold}
use Rattle.host_trace.specs.Tracings.{IsFlight, IsWorker, Traces, TracesOn, Works, WorksOn, worker_at}
use Rattle.host_trace.proofs.Numbers.{Spares, access_spares}
use Rattle.host_trace.proofs.Standing.{caller, works_there}

-- Who makes an access has begun.
begun_at : (settings : Settings) (q : ℕ) (machine : Option Machine) → IsSome (next (latest settings q machine)) → IsSome machine
unfolding next_at
begun_at settings q None makes = makes
begun_at settings q (Some machine) makes = refl

-- ---- another worker

module _ {c d : Simulation Free} (terms : HasSameTerms c d) {s u : Trace} (before : ShowsWorld c s.world) (shows : ShowsWorld d u.world)
    {p : ℕ} (spares : Spares p s u) (job : Job) (q : ℕ) (other : q ≢ p) (there : IsCaller (terms_in c) q) where
  attempt_kept : attempt_in d q ≡ attempt_in c q
  attempt_kept = sym (shows.attempts q (caller_then q terms there)) ∙ spares.attempts q other ∙ before.attempts q there

  settled_kept : settled_by u.rows q ≡ settled_by s.rows q
  settled_kept = ap (length {A = Row}) (spares.rows q other)

  flight_kept : (flight : Flight) → IsFlight job q c s flight → IsFlight job q d u flight
  flight_kept flight here = record {
    awaits = record {
      follows = record {
        shows = shows;
        told = subst (IsTold flight.said) (sym (spares.progress q other)) here.awaits.follows.told;
        runs = ap (λ (t : Attempt). t.now.runs) attempt_kept ∙ here.awaits.follows.runs;
      };
      rest = λ answer. ap (λ (now : Progress). now.rest answer) (spares.progress q other) ∙ here.awaits.rest answer;
    };
    flies =
        let makes = subst (λ (t : Attempt). IsSome (next t)) (sym attempt_kept) here.flies.makes in
        record {
          shown = (u.world, shows);
          begun = begun_at d.settings q (machine_at d q) makes;
          makes = makes;
          expects = rw (attempt_kept, terms.opening) here.flies.expects;
        };
    left = ap (λ (n : ℕ). nat_lt n (length (scripts_of job q))) settled_kept ∙ here.left;
  }

  either_kept : (flight : Option Flight) → MatchOption flight (IsOver (attempt_in c q)) (IsFlight job q c s) → MatchOption flight (IsOver (attempt_in d q)) (IsFlight job q d u)
  either_kept None over = subst IsOver (sym attempt_kept) over
  either_kept (Some flight) here = flight_kept flight here

  -- It stands as before.
  pub works_kept : (rows rest : List Row) (worker : Worker) → u.rows ≡ rest → Works job q c rows worker s → Works job q d rest worker u
  works_kept rows rest worker is works = record {
    shows = shows;
    lists = record {
      rows = is;
      settled = settled_kept ∙ works.lists.settled;
      rolled = spares.rolled q other ∙ works.lists.rolled;
    };
    attempts = ap (λ (t : Attempt). t.serial) attempt_kept ∙ works.attempts;
    flight = either_kept worker.flight works.flight;
  }

-- ---- the job on its way

apart : (q p : ℕ) → 0 < q → 0 < p → q ≢ p → q - 1 ≢ p - 1
apart q p here there other = λ same. other (omega (arith, same))

module _ {t : Tracing} {s u : Trace} (traces : Traces t s) {p : ℕ} (within : IsWorker t.job.now p) (d : Simulation Free) (rest : List Row) (last : Worker)
    (terms : HasSameTerms t.simulation d) (spares : Spares p s u) (works : Works t.job.now p d rest last u) where
  works_at : (items : List Worker) → items ≡ set t.workers.items (p - 1) last → (q : ℕ) (other : Worker) → IsWorker t.job.now q
      → Works t.job.now q d rest (get_or items (q - 1) other) u
  works_at items is q other there = elim (cases_eq q p) [
    | inl same ↦
        let here : get_or items (q - 1) other ≡ last =
        ap (λ (list : List Worker). get_or list (q - 1) other) is ∙ ap (λ (q : ℕ). get_or (set t.workers.items (p - 1) last) (q - 1) other) same
        ∙ get_or-set_same t.workers.items (p - 1) last other (omega (arith, within.0, within.1, traces.workers)) in
        subst (λ (q : ℕ). Works t.job.now q d rest (get_or items (q - 1) other) u) (sym same)
        (subst (λ (worker : Worker). Works t.job.now p d rest worker u) (sym (ap (λ (q : ℕ). get_or items (q - 1) other) (sym same) ∙ here)) works)
    | inr else ↦
        let here : get_or items (q - 1) other ≡ worker_at t q other =
        ap (λ (list : List Worker). get_or list (q - 1) other) is ∙ get_or-set_other t.workers.items (p - 1) (q - 1) last other (apart q p there.0 within.0 else) in
        subst (λ (worker : Worker). Works t.job.now q d rest worker u) (sym here)
        (works_kept terms traces.shows works.shows spares t.job.now q else (caller traces there) t.rows rest (worker_at t q other) works.lists.rows (traces.works q other there))
  ]

  pub traces_then : (after : Tracing) → after.job ≡ t.job → after.settings ≡ t.settings → after.simulation ≡ d → after.rows ≡ rest
      → after.workers.items ≡ set t.workers.items (p - 1) last → Traces after u
  traces_then after job settings simulation rows items = rw (job, settings, simulation, rows) (record {
    may = traces.may;
    opening = ap (λ (list : List ℕ). length list) terms.opening ∙ traces.opening;
    settings = terms.settings ∙ traces.settings;
    shows = works.shows;
    rows = works.lists.rows;
    numbered = spares.numbered traces.numbered;
    workers = ap (λ (list : List Worker). length list) items ∙ length-set t.workers.items (p - 1) last ∙ traces.workers;
    works = works_at after.workers.items items;
  })

module _ {t : Tracing} {p : ℕ} (within : IsWorker t.job.now p) (worker last : Worker) (is : worker ≡ get_or t.workers.items (p - 1) worker) (d : Simulation Free) (rest : List Row)
    (after : Tracing) (job : after.job ≡ t.job) (settings : after.settings ≡ t.settings) (simulation : after.simulation ≡ d) (rows : after.rows ≡ rest)
    (items : after.workers.items ≡ set t.workers.items (p - 1) last) where
  pub access_traces : WorksOn p t.simulation d t.rows rest worker last (access p) → TracesOn t after (access p)
  access_traces on = record {
    job = job;
    settings = settings;
    traces = λ s traces.
        traces_then traces within d rest last on.terms (access_spares p s) (on.works t.job.now s (works_there traces within worker is)) after job settings simulation rows items;
  }
