-- A worker's next attempt begins, of its first script that isn't settled. Here t is the job on its way, p the worker and s a trace.
use Rattle.std.proofs.Common.{◌≡◌, ℕ, suc, ◌-◌, ◌^◌, ◌<◌, ◌≤◌, true, false, not, ◌&&◌, nat_lt, IsTrue, List, [], length, get_or, set, Some, refl, ap, sym, subst, ◌∙◌, arith}
use Rattle.std.specs.List.{AllByRecursion, slice_get}
use Rattle.std.proofs.lemmas.Bool.{and_parts}
use Rattle.std.proofs.lemmas.Bool.Decides.{nat_tests}
use Rattle.std.proofs.lemmas.List.Elements.{All-from_recursion}
use Rattle.std.proofs.lemmas.Option.{get_or_from_slice_get, slice_get_within}
use Rattle.opacity.proofs.Places.{attempt_here}
use Rattle.stm_model.specs.Attempt.{Attempt, flies_at}
use Rattle.stm_model.specs.Moves.{Begins, moved}
use Rattle.stm_model.specs.World.{Moves, attempt_of, happened}
use Rattle.stm_model.specs.declared.law.Free.{Free}
use Rattle.stm_model.specs.declared.settings.Settings.{Settings}
use Rattle.ledger_model.specs.declared.job.Job.{Job}
use Rattle.ledger_model.specs.declared.script.Script.{Script}
use Rattle.ledger_model.specs.Allowed.{IsAllowed, first_footing}
use Rattle.ledger_model.specs.Fits.{ScriptFits, WorkerFits, places}
use Rattle.ledger_model.specs.Replays.{block_of, scripts_of, settled_by}
use Rattle.ledger_model.specs.Run.{statement_count}
use Rattle.ledger_model.specs.Talk.{talk}
use Rattle.ledger_model.specs.Traced.{Trace, access, attempt_in as traced_attempt, begins, fresh, has_left, is_flying, is_parked, may_begin, turn, with_progress}
use Rattle.ledger_model.proofs.Turning.{script_may}
use Rattle.world_run.specs.Simulation.{Simulation, MayBegin, attempt_in}
use Rattle.host_trace.specs.declared.trace.Tracing.{Tracing}
use Rattle.host_trace.specs.declared.worker.Worker.{Worker}
use Rattle.host_trace.specs.Tracings.{BeginsOn, IsWorker, Traces, TracesOn}
use Rattle.host_trace.proofs.Numbers.{Spares, stays_spares}
use Rattle.host_trace.proofs.Others.{happens_stays, progress_stays, stays_on}
use Rattle.host_trace.proofs.Standing.{over_there, same_attempt, works_there}
use Rattle.host_trace.proofs.Turning.{traces_then}

-- what holds of each holds of one that was found
found_one : {X : Type 0} (P : X → Type 0) (xs : List X) (k : ℕ) (x : X) → AllByRecursion P xs → slice_get xs k ≡ Some x → P x
found_one P xs k x each is = subst P (get_or_from_slice_get xs k x x is) (All-from_recursion P xs each k x (slice_get_within xs k x is))

pub begins_spares : (job : Job) (settings : Settings) (p : ℕ) (s : Trace) → Spares p s (begins job settings p s)
begins_spares job settings p s =
    let now = fresh (talk (block_of job p (suc (settled_by s.rows p)))) in
    stays_spares (stays_on (progress_stays p now s) (happens_stays p (Moves p (Begins settings)) (with_progress p now s) refl))

-- It flies then.
pub begun_flies : (job : Job) (settings : Settings) (p : ℕ) (s : Trace) → is_flying (begins job settings p s) p ≡ true
unfolding happened moved flies_at
begun_flies job settings p s = ap (λ (t : Attempt). flies_at t.stage) (attempt_here s.world p (record (s.world.view p) { attempt = moved (attempt_of s.world p) (Begins settings) }))

module _ {t : Tracing} {s : Trace} (traces : Traces t s) {p : ℕ} (within : IsWorker t.job.now p) where
  module _ (may : may_begin t.job.now t.settings s p ≡ true) where
    abbrev parts : (IsTrue (has_left t.job.now s p && not (is_parked s p))) × IsTrue (nat_lt (traced_attempt s p).serial t.settings.attempts)
    parts = and_parts (has_left t.job.now s p && not (is_parked s p)) (nat_lt (traced_attempt s p).serial t.settings.attempts) may

    left_there : IsTrue (has_left t.job.now s p)
    left_there = (and_parts (has_left t.job.now s p) (not (is_parked s p)) parts.0).0

    pub may_there : is_flying s p ≡ false → MayBegin t.simulation p
    may_there rests =
        let less : (traced_attempt s p).serial < t.settings.attempts = let fewer = parts.1 in grind (arith, nat_tests) in
        let serial : (traced_attempt s p).serial ≡ (attempt_in t.simulation p).serial = ap (λ (t : Attempt). t.serial) (same_attempt traces within) in
        let most : t.simulation.settings.attempts ≡ t.settings.attempts = ap (λ (settings : Settings). settings.attempts) traces.settings in
        record { over = over_there traces within rests; serial = omega (arith, less, serial, most) }

  module _ (worker : Worker) (is : worker ≡ get_or t.workers.items (p - 1) worker) (scripts : List Script) (script : Script)
      (own : slice_get t.job.now.workers (p - 1) ≡ Some scripts) (first : slice_get scripts worker.settled ≡ Some script) where
    scripts_are : scripts_of t.job.now p ≡ scripts
    scripts_are = get_or_from_slice_get t.job.now.workers (p - 1) scripts [] own

    block_is : block_of t.job.now p (suc (settled_by s.rows p)) ≡ script.block
    block_is =
        let none : Script = record { block = [] } in
        let place : suc (settled_by s.rows p) - 1 ≡ worker.settled = omega (arith, (works_there traces within worker is).lists.settled) in
        ap (λ (list : List Script). (get_or list (suc (settled_by s.rows p) - 1) none).block) scripts_are
        ∙ ap (λ (n : ℕ). (get_or scripts n none).block) place
        ∙ ap (λ (script : Script). script.block) (get_or_from_slice_get scripts worker.settled script none first)

    pub allowed_there : IsAllowed (length t.simulation.opening) first_footing (talk script.block)
    allowed_there =
        let fits : WorkerFits (places t.job.now) scripts = found_one (WorkerFits (places t.job.now)) t.job.now.workers (p - 1) scripts traces.may.fits.scripts own in
        let fit : ScriptFits (places t.job.now) script = found_one (ScriptFits (places t.job.now)) scripts worker.settled script fits.1 first in
        let counts : AllByRecursion (λ script. statement_count script.block ≤ 2 ^ 32) scripts =
        found_one (λ scripts. AllByRecursion (λ script. statement_count script.block ≤ 2 ^ 32) scripts) t.job.now.workers (p - 1) scripts traces.may.statements own in
        let few : statement_count script.block ≤ 2 ^ 32 = found_one (λ script. statement_count script.block ≤ 2 ^ 32) scripts worker.settled script counts first in
        rw traces.opening (script_may (places t.job.now) script.block 32 (omega arith) fit few)

    pub traces_begun : may_begin t.job.now t.settings s p ≡ true → (d : Simulation Free) (last : Worker) → BeginsOn p script t.simulation d worker last
        → (after : Tracing) → after.job ≡ t.job → after.settings ≡ t.settings → after.simulation ≡ d → after.rows ≡ t.rows
        → after.workers.items ≡ set t.workers.items (p - 1) last → Traces after (begins t.job.now t.settings p s)
    traces_begun may d last on after job settings simulation rows items =
        let works = rw traces.settings at (on.works t.job.now t.rows s (left_there may) block_is (works_there traces within worker is)) in
        traces_then traces within d t.rows last on.terms (begins_spares t.job.now t.settings p s) works after job settings simulation rows items

-- ---- a turn

pub traces_as : {t after : Tracing} (f g : Trace → Trace) → TracesOn t after f → ((s : Trace) → Traces t s → f s ≡ g s) → TracesOn t after g
traces_as {after = after} f g on same = record { job = on.job; settings = on.settings; traces = λ s traces. subst (Traces after) (same s traces) (on.traces s traces) }

pub traces_on : {t u after : Tracing} (f g : Trace → Trace) → TracesOn t u f → TracesOn u after g → TracesOn t after (λ s. g (f s))
traces_on f g first second = record { job = second.job ∙ first.job; settings = second.settings ∙ first.settings; traces = λ s traces. second.traces (f s) (first.traces s traces) }

module _ (job : Job) (settings : Settings) (p : ℕ) (s : Trace) where
  pub turn_flying : is_flying s p ≡ true → access p s ≡ turn job settings p s
  turn_flying flies = rw flies refl

  pub turn_beginning : is_flying s p ≡ false → may_begin job settings s p ≡ true → access p (begins job settings p s) ≡ turn job settings p s
  turn_beginning rests may = rw (rests, may) refl

-- In all traces that tell how far the job has come the worker flies alike.
pub flies_alike : {t : Tracing} {s u : Trace} → Traces t s → Traces t u → {p : ℕ} → IsWorker t.job.now p → is_flying s p ≡ is_flying u p
flies_alike first second within = ap (λ (t : Attempt). flies_at t.stage) (same_attempt first within ∙ sym (same_attempt second within))
