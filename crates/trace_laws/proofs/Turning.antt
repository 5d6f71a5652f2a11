-- Each turn keeps a trace tracked. Here s is the trace before and p the worker.
use Rattle.std.proofs.Common.{◌≡◌, ◌≢◌, ℕ, zero, suc, ◌+◌, ◌-◌, ◌^◌, ◌<◌, ◌≤◌, Bool, true, false, not, ◌&&◌, IsTrue, MatchBool, nat_lt, if◌then◌else◌, max, IfSome, List, [], ◌∷◌, length, get_or, Option, Some, None, refl, sym, ap, ◌∙◌, subst, arith, inl, inr}
use Rattle.std.proofs.lemmas.Bool.{and_parts, ltb-true}
use Rattle.std.proofs.lemmas.List.Elements.{All-from_recursion}
use Rattle.std.specs.List.{AllByRecursion, find, range_with_len}
use Rattle.std.specs.Option.{option_map_or, option_or}
use Rattle.meta_word.specs.declared.status.TheConstants.{MAX_SERIAL}
use Rattle.stm_model.specs.Attempt.{Attempt}
use Rattle.stm_model.specs.Moves.{Begins, May, begun, moved}
use Rattle.stm_model.specs.Safe.{caller_at}
use Rattle.stm_model.specs.World.{IsCaller, MayHappen, MeetsOwed, Moves, Terms, View, World, attempt_of, cells_in, happened}
use Rattle.stm_model.specs.declared.settings.Settings.{Settings}
use Rattle.opacity.specs.Alone.{IsAlone}
use Rattle.opacity.specs.Known.{IsKnown}
use Rattle.opacity.proofs.KnownEvents.{event_known}
use Rattle.opacity.proofs.LoneRuns.{event_alone, leaves_one}
use Rattle.opacity.proofs.Places.{replaced_else, replaced_here}
use Rattle.opacity.proofs.Steps.{event_safe}
use Rattle.ledger_model.specs.declared.job.Contents.{Contents}
use Rattle.ledger_model.specs.declared.job.Job.{Job}
use Rattle.ledger_model.specs.declared.script.Script.{Script}
use Rattle.ledger_model.specs.Allowed.{IsAllowed, first_footing}
use Rattle.ledger_model.specs.Contents.{opening_contents}
use Rattle.ledger_model.specs.Fits.{ScriptFits, WorkerFits, places}
use Rattle.ledger_model.specs.Replays.{rolled_of, rows_of, scripts_of, settled_by}
use Rattle.ledger_model.specs.Run.{statement_count}
use Rattle.ledger_model.specs.Talk.{talk}
use Rattle.ledger_model.specs.Traced.{MayBeTraced, Progress, Trace, access, attempt_in, begins, fresh, has_left, is_flying, is_parked, may_begin, onward, terms_of_job, turn, turns, whose, with_progress, workers_of}
use Rattle.ledger_model.proofs.Listed.{listed_sized}
use Rattle.ledger_model.proofs.Turning.{script_may}
use Rattle.ledger_model.proofs.Lists.{each_weaker}
use Rattle.trace_laws.proofs.Told.{IsTold}
use Rattle.trace_laws.proofs.Tracked.{Flies, Rests, Tracked, TracksWorker}
use Rattle.trace_laws.proofs.Answering.{begins as begins_told}
use Rattle.trace_laws.proofs.Happening.{Affects, move_affects}
use Rattle.trace_laws.proofs.Lasting.{worker_lasts}
use Rattle.trace_laws.proofs.Midway.{Around, Own}
use Rattle.trace_laws.proofs.Numbers.{IsBetween, each_in_range}
use Rattle.trace_laws.proofs.Resting.{ended_here}
use Rattle.trace_laws.proofs.Showing.{ends_on}
use Rattle.trace_laws.proofs.Speaking.{Runs, Tells, acts_on, script_in}

module _ (lawful : List ℕ → Type 0) (may : List ℕ → List ℕ → Type 0) (all_lawful : (heap : List ℕ) → lawful heap) (all_may : (heap next : List ℕ) → may heap next)
    (job : Job) (settings : Settings) (traced : MayBeTraced job settings) (attempts : settings.attempts ≤ MAX_SERIAL) where
  abbrev terms : Terms
  terms = terms_of_job job settings

  abbrev base : Contents
  base = opening_contents job

  abbrev IsTracked : Trace → Type 0
  IsTracked s = Tracked lawful may job settings s

  -- ---- one worker

  module _ (p : ℕ) (above : 1 ≤ p) (worker : p ≤ length job.workers) where
    caller : IsCaller terms p
    caller = (above, (let same : settings.callers ≡ max (length job.workers) 1 = traced.callers in omega (arith, same, worker)))

    -- what follows the worker's access is tracked
    accessed : (s : Trace) → Runs lawful may job settings p s → IsTracked (access p s)
    accessed s runs = ends_on traced p caller worker _ (acts_on lawful may all_lawful all_may job settings p caller worker s runs)

    module _ (s : Trace) (old : IsTracked s) where
      abbrev t : Attempt
      t = attempt_in s p

      abbrev own : TracksWorker job settings s p
      own = old.workers p above worker

      -- ---- an attempt in flight

      flying : is_flying s p ≡ true → Runs lawful may job settings p s
      flying flies =
          let stands : Flies job s p = subst (λ (b : Bool). MatchBool b (Flies job s p) (Rests s p)) flies own.stands in
          record {
            midway = record {
              around = record {
                safe = old.safe;
                alone = old.alone;
                workers = λ q apart low high. old.workers q low high;
                others = old.others;
                rows = old.rows;
                rolled = old.rolled;
                accounted = λ n within. elim (old.accounted n within) [ inl listed ↦ inl listed | inr entry ↦ inr (λ apart. entry.0, entry.1) ];
              };
              own = record {
                ordered = record { numbered = own.lists.numbered; rows_rise = own.lists.rows; lines_rise = own.lists.rolled; between = own.lists.between };
                seen = (own.lists.seen, own.lists.rolled_seen);
                since = λ apart. own.lists.since apart flies;
                known = own.known;
                settings_are = own.settings_are;
                serial = own.serial;
                left = stands.left;
                made = stands.made;
                early = stands.early;
              };
            };
            told = stands.told;
          }

      -- ---- the next attempt

      module _ (grounded : is_flying s p ≡ false) (able : may_begin job settings s p ≡ true) where
        stands : Rests s p
        stands = subst (λ (b : Bool). MatchBool b (Flies job s p) (Rests s p)) grounded own.stands

        tests : ((has_left job s p && not (is_parked s p)) ≡ true) × (nat_lt t.serial settings.attempts ≡ true)
        tests = and_parts (has_left job s p && not (is_parked s p)) (nat_lt t.serial settings.attempts) able

        left : settled_by s.rows p < length (scripts_of job p)
        left = ltb-true (settled_by s.rows p) (length (scripts_of job p)) (and_parts (has_left job s p) (not (is_parked s p)) tests.0).0

        fewer : t.serial < settings.attempts
        fewer = ltb-true t.serial settings.attempts tests.1

        may_move : May (cells_in terms) terms.limit t (Begins settings)
        unfolding May
        may_move = (ended_here t.stage grounded, stands.nothing_due, refl, fewer, attempts)

        may_happen : MayHappen terms s.world (Moves p (Begins settings))
        unfolding MayHappen
        may_happen = (caller, may_move)

        owes_nothing : MeetsOwed lawful may terms s.world (Moves p (Begins settings))
        unfolding MeetsOwed
        owes_nothing = tt

        abbrev v : World
        v = happened s.world (Moves p (Begins settings))

        affects : Affects s.world v p
        affects = move_affects s.world p (cells_in terms) terms.limit (Begins settings) may_move

        abbrev next : Trace
        next = begins job settings p s

        alone_then : settings.callers ≡ 1 → IsAlone v 1
        alone_then one =
            event_alone lawful may terms s.world 1 old.safe (omega arith, omega (arith, one)) (old.alone one) (Moves p (Begins settings)) (leaves_one terms s.world (Moves p (Begins settings)) one may_happen) may_happen

        attempt_else : (q : ℕ) → q ≢ p → attempt_of v q ≡ attempt_of s.world q
        attempt_else q apart = ap (λ (view : View). view.attempt) (affects.others q apart)

        -- who is in flight is another
        another : (q : ℕ) → IsTrue (is_flying s q) → q ≢ p
        another q flies same = let here : is_flying s p ≡ true = subst (λ (r : ℕ). is_flying s r ≡ true) same flies in let never : false ≡ true = sym grounded ∙ here in cc

        around : Around lawful may job settings p next
        unfolding happened
        around = record {
          safe = event_safe lawful may terms s.world (Moves p (Begins settings)) may_happen owes_nothing old.safe;
          alone = alone_then;
          workers = λ q apart low high. worker_lasts job settings s next q (affects.others q apart) refl refl (replaced_else s.progress p _ q apart) (old.workers q low high);
          others = λ q past. ap (λ (u : Attempt). u.stage) (attempt_else q (λ same. absurd (omega (arith, same, past, worker)))) ∙ old.others q past;
          rows = old.rows;
          rolled = old.rolled;
          accounted = λ n within. elim (old.accounted n within) [
            | inl listed ↦ inl listed
            | inr entry ↦
                let apart : caller_at s.world n ≢ p = another (caller_at s.world n) entry.0 in
                inr (λ other. rw (attempt_else (caller_at s.world n) apart) entry.0, rw (attempt_else (caller_at s.world n) apart) entry.1)
          ];
        }

        abbrev begun_view : View
        begun_view = record (s.world.view p) { attempt = begun t settings }

        view_then : v.view p ≡ begun_view
        unfolding happened moved
        view_then = replaced_here s.world.view p begun_view

        own_begun : Own job settings p begun_view (rows_of p s.rows) (rolled_of p s.rolled)
        own_begun =
            let made = stands.made in
            record {
              ordered = record { numbered = own.lists.numbered; rows_rise = own.lists.rows; lines_rise = own.lists.rolled; between = own.lists.between };
              seen = (own.lists.seen, own.lists.rolled_seen);
              since = λ apart. absurd (apart refl);
              known = subst IsKnown view_then (event_known lawful may terms s.world old.safe (Moves p (Begins settings)) p may_happen own.known);
              settings_are = refl;
              serial = omega (arith, fewer);
              left = left;
              made = omega (arith, made);
              early = λ decided. absurd (omega (arith, decided));
            }

        -- ---- its script

        abbrev script : Script
        script = get_or (scripts_of job p) (suc (settled_by s.rows p) - 1) (record { block = [] })

        within : p - 1 < length job.workers
        within = omega (arith, above, worker)

        inside : suc (settled_by s.rows p) - 1 < length (scripts_of job p)
        inside = omega (arith, left)

        allowed : IsAllowed (length base.refs) first_footing (talk script.block)
        allowed =
            let fits : WorkerFits (places job) (scripts_of job p) = All-from_recursion (WorkerFits (places job)) job.workers traced.fits.scripts (p - 1) [] within in
            let counted = All-from_recursion (AllByRecursion (λ (script : Script). statement_count script.block ≤ 2 ^ 32)) job.workers traced.statements (p - 1) [] within in
            rw (listed_sized job [] 0).0
            (script_may (places job) script.block 32 (omega arith) (All-from_recursion (ScriptFits (places job)) (scripts_of job p) fits.1 (suc (settled_by s.rows p) - 1) (record { block = [] }) inside)
            (All-from_recursion (λ (script : Script). statement_count script.block ≤ 2 ^ 32) (scripts_of job p) counted (suc (settled_by s.rows p) - 1) (record { block = [] }) inside))

        told : Tells job p next
        unfolding happened moved
        told =
            let now : Progress = fresh (talk (script_in job p s)) in
            subst (λ (view : View). IsTold base (script_in job p s) view.attempt ((with_progress p now s).progress p)) (sym view_then)
            (subst (λ (g : Progress). IsTold base (script_in job p s) (begun t settings) g) (sym (replaced_here s.progress p now)) (begins_told base (script_in job p s) t settings allowed))

        beginning : Runs lawful may job settings p next
        beginning = record { midway = record { around = around; own = subst (λ (view : View). Own job settings p view (rows_of p s.rows) (rolled_of p s.rolled)) (sym view_then) own_begun }; told = told }

      -- ---- a turn

      begins_or_not : is_flying s p ≡ false → (b : Bool) → may_begin job settings s p ≡ b → IsTracked (if b then access p (begins job settings p s) else s)
      begins_or_not grounded true able = accessed (begins job settings p s) (beginning grounded able)
      begins_or_not grounded false able = old

      pub turn_on : IsTracked (turn job settings p s)
      turn_on = go (is_flying s p) refl
        where
          go : (b : Bool) → is_flying s p ≡ b → IsTracked (if b then access p s else (if may_begin job settings s p then access p (begins job settings p s) else s))
          go true flies = accessed s (flying flies)
          go false grounded = begins_or_not grounded (may_begin job settings s p) refl

  -- ---- the schedule

  abbrev IsWorker : ℕ → Type 0
  IsWorker p = (1 ≤ p) × (p ≤ length job.workers)

  pub turns_on : (steps : List ℕ) (s : Trace) → AllByRecursion IsWorker steps → IsTracked s → IsTracked (turns job settings steps s)
  turns_on [] s named old = old
  turns_on (p ∷ ps) s named old = turns_on ps (turn job settings p s) named.1 (turn_on p named.0.0 named.0.1 s old)

  all_workers : AllByRecursion IsWorker (workers_of job)
  all_workers =
      each_weaker (IsBetween 1 (length job.workers)) IsWorker (λ p within. (within.0, (let high : p < 1 + length job.workers = within.1 in omega (arith, high))))
      (range_with_len 1 (length job.workers)) (each_in_range 1 (length job.workers))

  first_within : (test : ℕ → Bool) (ps : List ℕ) → AllByRecursion IsWorker ps → IfSome (find test ps) IsWorker
  first_within test [] named = tt
  first_within test (p ∷ ps) named = go (test p) (first_within test ps named.1)
    where
      go : (b : Bool) → IfSome (find test ps) IsWorker → IfSome (if b then Some p else find test ps) IsWorker
      go true rest = named.0
      go false rest = rest

  or_within : (first second : Option ℕ) → IfSome first IsWorker → IfSome second IsWorker → IfSome (option_or first second) IsWorker
  or_within None second one other = other
  or_within (Some p) second one other = one

  found_on : (found : Option ℕ) (s : Trace) → IfSome found IsWorker → IsTracked s → IsTracked (option_map_or (λ p. turn job settings p s) found s)
  found_on None s is old = old
  found_on (Some p) s is old = turn_on p is.0 is.1 s old

  pub onward_on : (count : ℕ) (s : Trace) → IsTracked s → IsTracked (onward job settings count s)
  unfolding onward
  onward_on zero s old = old
  onward_on (suc count) s old =
      onward_on count (option_map_or (λ p. turn job settings p s) (whose job settings s) s)
      (found_on (whose job settings s) s
      (or_within (find (is_flying s) (workers_of job)) (find (may_begin job settings s) (workers_of job)) (first_within (is_flying s) (workers_of job) all_workers) (first_within (may_begin job settings s) (workers_of job) all_workers)) old)
