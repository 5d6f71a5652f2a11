-- The trace in which nobody has begun is tracked, and so is the one to which a schedule leads.
use Rattle.std.proofs.Common.{◌≡◌, ℕ, ◌≤◌, max, List, [], length, refl, arith}
use Rattle.std.specs.List.{AllByRecursion}
use Rattle.std.proofs.lemmas.List.Elements.{All-from_recursion}
use Rattle.meta_word.specs.declared.meta.TheConstants.{MAX_VERSION}
use Rattle.meta_word.specs.declared.status.TheConstants.{MAX_SERIAL}
use Rattle.stm_model.specs.Attempt.{flies_at}
use Rattle.stm_model.specs.Safe.{TermsFit}
use Rattle.stm_model.specs.World.{Terms}
use Rattle.stm_model.specs.declared.settings.Settings.{Settings}
use Rattle.opacity.proofs.KnownEvents.{opened_known}
use Rattle.opacity.proofs.LoneRuns.{opened_alone}
use Rattle.opacity.proofs.Openings.{opened_safe}
use Rattle.ledger_model.specs.declared.job.Job.{Job}
use Rattle.ledger_model.specs.Traced.{MayBeTraced, onward, opening_trace, terms_of_job, turns}
use Rattle.ledger_model.specs.Words.{IsWord}
use Rattle.ledger_model.proofs.WordLemmas.{listed_words}
use Rattle.trace_laws.proofs.Tracked.{Tracked, TracksWorker}
use Rattle.trace_laws.proofs.Turning.{onward_on, turns_on}

module _ (job : Job) (settings : Settings) (traced : MayBeTraced job settings) (limit : settings.clock ≤ MAX_VERSION) where
  abbrev terms : Terms
  terms = terms_of_job job settings

  terms_fit : TermsFit terms
  terms_fit =
      let callers : settings.callers ≡ max (length job.workers) 1 = traced.callers in
      let few : length job.workers ≤ 16 = traced.fits.workers in
      record { callers = omega (arith, callers, few); limit = limit; words = All-from_recursion IsWord terms.opening (listed_words job [] 0 traced.fits).refs }

  worker_opened : (p : ℕ) → TracksWorker job settings (opening_trace job settings) p
  unfolding flies_at
  worker_opened p = record {
    lists = record {
      numbered = refl;
      most = omega arith;
      rows = tt;
      rolled = tt;
      between = tt;
      seen = tt;
      rolled_seen = tt;
      since = λ apart flies. (tt, tt);
    };
    known = opened_known terms settings p;
    settings_are = refl;
    serial = omega arith;
    stands = record { nothing_due = refl; made = refl; retried = λ prefix is. cc };
  }

  pub opening_tracked : (lawful : List ℕ → Type 0) (may : List ℕ → List ℕ → Type 0) → ((heap : List ℕ) → lawful heap) → Tracked lawful may job settings (opening_trace job settings)
  opening_tracked lawful may all_lawful = record {
    safe = opened_safe terms settings lawful may terms_fit refl (all_lawful terms.opening);
    alone = λ one. opened_alone terms settings 1;
    workers = λ p low high. worker_opened p;
    others = λ p past. refl;
    rows = tt;
    rolled = tt;
    accounted = λ n within. absurd (omega (arith, within));
  }

  -- whatever steps are written, and behind them any number of turns
  pub onward_tracked : (lawful : List ℕ → Type 0) (may : List ℕ → List ℕ → Type 0) → ((heap : List ℕ) → lawful heap) → ((heap next : List ℕ) → may heap next) → settings.attempts ≤ MAX_SERIAL
      → (steps : List ℕ) → AllByRecursion (λ worker. (1 ≤ worker) × (worker ≤ length job.workers)) steps → (count : ℕ)
      → Tracked lawful may job settings (onward job settings count (turns job settings steps (opening_trace job settings)))
  onward_tracked lawful may all_lawful all_may attempts steps named count =
      let opens = opening_tracked lawful may all_lawful in
      let stepped = turns_on lawful may all_lawful all_may job settings traced attempts steps (opening_trace job settings) named opens in
      onward_on lawful may all_lawful all_may job settings traced attempts count (turns job settings steps (opening_trace job settings)) stepped
