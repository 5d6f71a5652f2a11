-- What a worker's attempt shows at its end, by how it ended, and that the trace is tracked then. Here s is the trace before and p the worker.
use Rattle.std.proofs.Common.{◌≡◌, ℕ, suc, ◌-◌, ◌^◌, ◌<◌, ◌≤◌, Bool, true, false, IsTrue, MatchBool, nat_lt, if◌then◌else◌, max, List, [], length, get_or, Option, Some, None, refl, sym, ap, ◌∙◌, subst, arith, inl, inr}
use Rattle.std.proofs.lemmas.Bool.{cases_eq, le-ltb, lt-ltb}
use Rattle.std.proofs.lemmas.List.Elements.{All-from_recursion}
use Rattle.std.specs.List.{AllByRecursion}
use Rattle.stm_model.specs.Attempt.{Attempt, Ended, Stage, flies_at, stamp_in, stamp_of}
use Rattle.stm_model.specs.Evidence.{Evidence}
use Rattle.stm_model.specs.Heap.{Agrees, over}
use Rattle.stm_model.specs.History.{Entry, entry_after, state}
use Rattle.stm_model.specs.Safe.{EndsSo, HasBegun, IsKept, IsShown, Opaque, caller_at}
use Rattle.stm_model.specs.Telling.{Extends}
use Rattle.stm_model.specs.World.{IsCaller, Terms, World, attempt_of, entry_of}
use Rattle.stm_model.specs.declared.cause.Cause.{Cause}
use Rattle.stm_model.specs.declared.cause.Cause.TheVariants.{ClockEnd, ClockMoved, Doomed, Moved, ReadConflict, Retry, Stale, User, WriteConflict}
use Rattle.stm_model.specs.declared.ending.Ending.{Ending}
use Rattle.stm_model.specs.declared.ending.Ending.TheVariants.{Committed, Read, Rolled as RolledBack}
use Rattle.stm_model.specs.declared.settings.Settings.{Settings}
use Rattle.stm_model.proofs.HistoryLemmas.{Agrees-from_current, length-state, state-suc}
use Rattle.stm_model.proofs.CellsLemmas.{Extends-refl}
use Rattle.opacity.specs.Alone.{EndsByItself, IsOwn}
use Rattle.opacity.proofs.Runs.{safe_opaque}
use Rattle.opacity.proofs.Truths.{committed_shows, rolled_shows}
use Rattle.ledger_model.specs.declared.job.Contents.{Contents}
use Rattle.ledger_model.specs.declared.job.Job.{Job}
use Rattle.ledger_model.specs.declared.listing.Rolled.{Rolled}
use Rattle.ledger_model.specs.declared.listing.Row.{Row}
use Rattle.ledger_model.specs.declared.listing.RowResult.{RowResult}
use Rattle.ledger_model.specs.declared.listing.RowResult.TheVariants.{Done, Fail, Spent}
use Rattle.ledger_model.specs.declared.script.Script.{Script}
use Rattle.ledger_model.specs.Contents.{opening_contents}
use Rattle.ledger_model.specs.Fits.{ScriptFits, WorkerFits, places}
use Rattle.ledger_model.specs.Replays.{HasRetried, NamesScript, TellsResult, scripts_of, settled_by}
use Rattle.ledger_model.specs.Report.{has_text}
use Rattle.ledger_model.specs.Run.{Kept, Failed, Outcome, statement_count}
use Rattle.ledger_model.specs.Settle.{Commits, Fails, OnlyReads, Spends, settle}
use Rattle.ledger_model.specs.Traced.{MayBeTraced, Trace, attempt_in, ended_with, ends, is_flying, rolled_with, terms_of_job, with_rolled, with_row}
use Rattle.ledger_model.proofs.Asked.{script_is_its_run}
use Rattle.trace_laws.proofs.Ended.{TellsCommit, TellsFailure, TellsRead, TellsRetry, TellsRollback, TellsRun, TellsSpent}
use Rattle.trace_laws.proofs.Told.{with_refs}
use Rattle.trace_laws.proofs.Tracked.{Flies, IsAccounted, Rests, ShowsWriter, Tracked, TracksWorker, contents_at, run_at}
use Rattle.trace_laws.proofs.EndedRuns.{tells_run}
use Rattle.trace_laws.proofs.Midway.{IsAccountedBut}
use Rattle.trace_laws.proofs.Settling.{line_settles, row_settles}
use Rattle.trace_laws.proofs.Speaking.{Pauses, script_in, told_kept}

-- ---- how a run is settled

settles_kept : (o : Outcome) (writers limit : ℕ) (wrote : Bool) → o.end ≡ Kept → o.after.wrote ≡ wrote → settle o writers limit ≡ (if wrote then (if nat_lt writers limit then Commits else Spends) else OnlyReads)
settles_kept o writers limit wrote end is = rw (end, is) refl

commits : (o : Outcome) (writers limit : ℕ) → o.end ≡ Kept → o.after.wrote ≡ true → writers < limit → settle o writers limit ≡ Commits
commits o writers limit end wrote less = settles_kept o writers limit true end wrote ∙ ap (λ (b : Bool). if b then Commits else Spends) (lt-ltb writers limit less)

spends : (o : Outcome) (writers limit : ℕ) → o.end ≡ Kept → o.after.wrote ≡ true → writers ≡ limit → settle o writers limit ≡ Spends
spends o writers limit end wrote same = settles_kept o writers limit true end wrote ∙ ap (λ (b : Bool). if b then Commits else Spends) (le-ltb writers limit (omega (arith, same)))

fails : (o : Outcome) (writers limit code : ℕ) → o.end ≡ Failed code → settle o writers limit ≡ Fails code
fails o writers limit code end = rw end refl

-- A caller that works alone is rolled back by a retry alone, as far as rolled lines name causes.
only_retry : (cause : Cause) → IsTrue (has_text cause) → IsOwn cause → cause ≡ Retry
unfolding IsOwn
only_retry (ReadConflict addr meta) text own = absurd own
only_retry (Moved addr first second) text own = absurd own
only_retry (Stale addr version meta) text own = absurd own
only_retry (WriteConflict addr meta) text own = absurd own
only_retry (Doomed status) text own = absurd own
only_retry (ClockMoved first second) text own = absurd own
only_retry Retry text own = refl
only_retry cause text own = let never : false ≡ true = text in cc

module _ {lawful : List ℕ → Type 0} {may : List ℕ → List ℕ → Type 0} {job : Job} {settings : Settings} (traced : MayBeTraced job settings) (p : ℕ) (caller : IsCaller (terms_of_job job settings) p)
    (worker : p ≤ length job.workers) (s : Trace) (old : Pauses lawful may job settings p s) where
  abbrev terms : Terms
  terms = terms_of_job job settings

  abbrev base : Contents
  base = opening_contents job

  abbrev w : World
  w = s.world

  abbrev h : List Entry
  h = w.history

  abbrev t : Attempt
  t = attempt_in s p

  abbrev number : ℕ
  number = suc (settled_by s.rows p)

  -- ---- the script

  named : NamesScript job p number
  named = let left = old.midway.own.left in record { worker_from = caller.0; worker_to = worker; number_from = omega arith; number_to = left }

  abbrev script : Script
  script = get_or (scripts_of job p) (number - 1) (record { block = [] })

  within : p - 1 < length job.workers
  within = let low : 0 < p = caller.0 in omega (arith, low)

  inside : number - 1 < length (scripts_of job p)
  inside = let left = old.midway.own.left in omega (arith, left)

  script_fits : ScriptFits (places job) script
  script_fits =
      let fits : WorkerFits (places job) (scripts_of job p) = All-from_recursion (WorkerFits (places job)) job.workers traced.fits.scripts (p - 1) [] within in
      All-from_recursion (ScriptFits (places job)) (scripts_of job p) fits.1 (number - 1) (record { block = [] }) inside

  few : statement_count script.block ≤ 2 ^ 32
  few =
      let counted = All-from_recursion (AllByRecursion (λ (script : Script). statement_count script.block ≤ 2 ^ 32)) job.workers traced.statements (p - 1) [] within in
      All-from_recursion (λ (script : Script). statement_count script.block ≤ 2 ^ 32) (scripts_of job p) counted (number - 1) (record { block = [] }) inside

  -- ---- where it has ended

  module _ (ended : t.stage ≡ Ended) where
    abbrev heap : ℕ → List ℕ
    heap n = state base.refs h n

    tells : (n : ℕ) → Agrees t.notes (heap n) → TellsRun base (heap n) t (s.progress p) (run_at job h p number n) t.ending
    tells n agrees =
        tells_run base script.block t (s.progress p) ended old.nothing_due (heap n) (length-state base.refs h n) agrees (run_at job h p number n)
        (script_is_its_run (places job) traced.maps traced.snaps script.block 32 (contents_at job h n) script_fits few) old.told

    kept : IsKept t.stage t.ending
    kept = told_kept base (script_in job p s) t (s.progress p) t.stage old.told

    has_begun : HasBegun t.stage
    unfolding HasBegun
    has_begun = rw ended tt

    opaque : Opaque base.refs h (w.view p).since t
    opaque = safe_opaque lawful may terms w p old.midway.around.safe caller has_begun kept

    -- The attempt has read the heap after the first n entries, no older than what its caller had seen before it and no newer than what that one has seen.
    record HasRead (n : ℕ) : Type 0 where
      agrees : Agrees t.notes (heap n)
      low : n ≤ length h
      fresh : (w.view p).since ≤ n
      seen : n ≤ (w.view p).seen

    has_read : (n : ℕ) → n ≡ t.prefix → HasRead n
    has_read n same = record {
      agrees = subst (λ (k : ℕ). Agrees t.notes (heap k)) (sym same) opaque.notes;
      low = omega (arith, same, opaque.prefix);
      fresh = omega (arith, same, opaque.fresh);
      seen = omega (arith, same, old.midway.own.known.prefix);
    }

    tells_at : (n : ℕ) → HasRead n → (ending : Option Ending) → t.ending ≡ ending → TellsRun base (heap n) t (s.progress p) (run_at job h p number n) ending
    tells_at n read ending is = subst (λ (each : Option Ending). TellsRun base (heap n) t (s.progress p) (run_at job h p number n) each) is (tells n read.agrees)

    -- ---- rows of scripts that commit nothing

    module _ (result : RowResult) (prints : List ℕ) (prefix : ℕ) (read : HasRead prefix) where
      abbrev row : Row
      row = record { position = prefix; writer = false; worker = p; number = number; result = result; prints = prints; runs = t.now.runs; drawn = 0 }

      row_read : TellsResult result settings row (run_at job h p number prefix) → stamp_of t ≡ 0 → ((other : ℕ) → t.ending ≡ Some (RolledBack Retry other) → ⊥)
          → Tracked lawful may job settings (with_row p prefix false result prints s)
      row_read shows unstamped not_retried =
          row_settles p s old.midway ended old.nothing_due row refl refl (record { named = named; to = read.low; drawn = refl; script = record { tells = shows; drawn = refl } }) read.fresh read.seen not_retried
          (λ n stamp. absurd (omega (arith, stamp, unstamped)))

    ended_read : (prefix : ℕ) → t.ending ≡ Some (Read prefix) → Tracked lawful may job settings (with_row p prefix false Done (s.progress p).prints s)
    unfolding TellsRun EndsSo
    ended_read prefix is =
        let same : prefix ≡ t.prefix = subst (λ (ending : Option Ending). EndsSo w t ending) is (old.midway.around.safe.attempts p caller).ends_so in
        let read = has_read prefix same in
        let run : TellsRead t (s.progress p) (run_at job h p number prefix) = tells_at prefix read (Some (Read prefix)) is in
        row_read Done (s.progress p).prints prefix read
        (record { settled = settles_kept (run_at job h p number prefix) prefix settings.clock false run.end run.wrote; printed = sym run.prints; runs = run.runs })
        (ap stamp_in is) (λ other retried. cc)

    -- ---- a writer

    module _ (stamp : ℕ) (is : t.ending ≡ Some (Committed stamp)) where
      place : (0 < stamp) × (stamp ≤ length h) × (entry_after h (stamp - 1) ≡ entry_of t)
      place = committed_shows terms w p t stamp (old.midway.around.safe.attempts p caller) is

      next : suc (stamp - 1) ≡ stamp
      next = let above = place.0 in omega (arith, above)

      before : stamp - 1 < length h
      before = omega (arith, next, place.1)

      own : caller_at w (stamp - 1) ≡ p
      own = ap (λ (entry : Entry). entry.caller) place.2 ∙ (old.midway.around.safe.attempts p caller).sound.own

      agrees : Agrees t.notes (heap (stamp - 1))
      agrees =
          subst (λ (entry : Entry). Agrees entry.reads (heap (stamp - 1))) place.2
          (Agrees-from_current base.refs h (stamp - 1) (entry_after h (stamp - 1)).reads (old.midway.around.safe.legal.reads (stamp - 1) before))

      run : TellsCommit base (heap (stamp - 1)) t (s.progress p) (run_at job h p number (stamp - 1))
      unfolding TellsRun
      run = subst (λ (ending : Option Ending). TellsRun base (heap (stamp - 1)) t (s.progress p) (run_at job h p number (stamp - 1)) ending) is (tells (stamp - 1) agrees)

      leaves : over (heap (stamp - 1)) t.now.writes ≡ heap stamp
      leaves =
          ap (λ (entry : Entry). over (heap (stamp - 1)) entry.writes) (sym place.2) ∙ sym (state-suc base.refs h (stamp - 1)) ∙ ap heap next

      abbrev writer : Row
      writer = record { position = stamp; writer = true; worker = p; number = number; result = Done; prints = (s.progress p).prints; runs = t.now.runs; drawn = 0 }

      limit : stamp - 1 < settings.clock
      limit = let clock = old.midway.around.safe.clock in let low : w.clock ≤ settings.clock = old.midway.around.safe.limit in omega (arith, before, clock, low)

      shows_writer : ShowsWriter job settings h writer
      shows_writer = record {
        from = place.0;
        own = own;
        tells = record {
          done = refl;
          tells = record { settled = commits (run_at job h p number (stamp - 1)) (stamp - 1) settings.clock run.end run.wrote limit; printed = sym run.prints; runs = run.runs };
          drawn = omega arith;
        };
        leaves = run.contents ∙ ap (with_refs base) leaves;
      }

      is_stamp : stamp_of t ≡ stamp
      is_stamp = ap stamp_in is

      later : (w.view p).since < stamp
      later = let early = old.midway.own.early (rw is_stamp place.0) in omega (arith, opaque.fresh, early, is_stamp)

      seen : stamp ≤ (w.view p).seen
      seen = let low : stamp - 1 < (w.view (caller_at w (stamp - 1))).seen = old.midway.around.safe.callers.seen (stamp - 1) before in omega (arith, rw own at low, next)

      ended_committed : Tracked lawful may job settings (with_row p stamp true Done (s.progress p).prints s)
      ended_committed =
          row_settles p s old.midway ended old.nothing_due writer refl refl (record { named = named; to = place.1; drawn = refl; script = shows_writer }) later seen (λ other retried. cc)
          (λ n at. (refl, sym is_stamp ∙ at))

    -- ---- a rollback

    module _ (cause : Cause) (prefix : ℕ) (is : t.ending ≡ Some (RolledBack cause prefix)) where
      shown : (prefix ≡ t.prefix) × IsShown t cause
      shown = rolled_shows terms w p t cause prefix (old.midway.around.safe.attempts p caller) is

      read_then : HasRead prefix
      read_then = has_read prefix shown.0

      abbrev o : Outcome
      o = run_at job h p number prefix

      rollback : TellsRollback t (s.progress p) o cause
      unfolding TellsRun
      rollback = tells_at prefix read_then (Some (RolledBack cause prefix)) is

      evidence : Evidence p settings cause
      evidence =
          subst (λ (q : ℕ). Evidence q settings cause) (old.midway.around.safe.attempts p caller).sound.own
          (subst (λ (each : Settings). Evidence t.own each cause) old.midway.own.settings_are shown.1.evidence)

      own_cause : settings.callers ≡ 1 → IsOwn cause
      unfolding EndsByItself
      own_cause one =
          let alone = old.midway.around.alone one in
          let first : p ≡ 1 = (let low = caller.0 in let high : p ≤ settings.callers = caller.1 in omega (arith, one, low, high)) in
          let ending : t.ending ≡ (attempt_of w 1).ending = ap (λ (q : ℕ). (attempt_of w q).ending) first in
          subst EndsByItself (sym ending ∙ is) alone.goes.undisturbed.ending

      abbrev line : Rolled
      line = record { worker = p; number = number; prefix = prefix; cause = cause; trail = (s.progress p).trail }

      ended_rolled : Extends (s.progress p).trail o.after.trail → IsTrue (has_text cause) → (cause ≡ Retry → HasRetried line o)
          → Tracked lawful may job settings (with_rolled p prefix cause s)
      ended_rolled trail text retry =
          let alone : length job.workers ≡ 1 → cause ≡ Retry = λ one. only_retry cause text (own_cause (traced.callers ∙ ap (λ (n : ℕ). max n 1) one)) in
          line_settles p s old.midway ended old.nothing_due line refl refl
          (record { named = named; to = read_then.low; tells = record { trail = trail; cause = text; evidence = evidence; retry = retry; alone = alone } })
          read_then.fresh read_then.seen (ap stamp_in is) (λ other retried. let same = sym is ∙ retried in (cc, cc))

    ended_failed : (code prefix : ℕ) → t.ending ≡ Some (RolledBack (User code) prefix) → Tracked lawful may job settings (with_row p prefix false (Fail code) [] s)
    unfolding TellsRollback
    ended_failed code prefix is =
        let run : TellsFailure t (o (User code) prefix is) code = rollback (User code) prefix is in
        row_read (Fail code) [] prefix (read_then (User code) prefix is)
        (record { settled = fails (o (User code) prefix is) prefix settings.clock code run.end; printed = refl; runs = run.runs })
        (ap stamp_in is) (λ other retried. cc)

    ended_spent : (clock prefix : ℕ) → t.ending ≡ Some (RolledBack (ClockEnd clock) prefix) → Tracked lawful may job settings (with_row p prefix false Spent [] s)
    unfolding TellsRollback Evidence
    ended_spent clock prefix is =
        let run : TellsSpent t (o (ClockEnd clock) prefix is) clock = rollback (ClockEnd clock) prefix is in
        let limit : clock ≡ settings.clock = evidence (ClockEnd clock) prefix is in
        let same : prefix ≡ settings.clock = (shown (ClockEnd clock) prefix is).0 ∙ run.prefix ∙ limit in
        row_read Spent [] prefix (read_then (ClockEnd clock) prefix is)
        (record { settled = spends (o (ClockEnd clock) prefix is) prefix settings.clock run.end run.wrote same; printed = refl; runs = run.runs })
        (ap stamp_in is) (λ other retried. cc)

    ended_retried : (prefix : ℕ) → t.ending ≡ Some (RolledBack Retry prefix) → Tracked lawful may job settings (with_rolled p prefix Retry s)
    unfolding TellsRollback
    ended_retried prefix is =
        let run : TellsRetry (s.progress p) (o Retry prefix is) = rollback Retry prefix is in
        ended_rolled Retry prefix is (subst (λ (trail : List ℕ). Extends (s.progress p).trail trail) (sym run.trail) (Extends-refl (s.progress p).trail)) refl (λ same. record { retries = run.end; whole = sym run.trail })

    by_cause : (cause : Cause) (prefix : ℕ) → t.ending ≡ Some (RolledBack cause prefix) → Tracked lawful may job settings (rolled_with cause p prefix s)
    unfolding TellsRollback
    by_cause (User code) prefix is = ended_failed code prefix is
    by_cause (ClockEnd clock) prefix is = ended_spent clock prefix is
    by_cause Retry prefix is = ended_retried prefix is
    by_cause cause prefix is = let run = rollback cause prefix is in ended_rolled cause prefix is run.trail run.text (λ same. cc)

    by_ending : (ending : Option Ending) → t.ending ≡ ending → Tracked lawful may job settings (ended_with ending p s)
    unfolding TellsRun
    by_ending None is = absurd (tells_at t.prefix (has_read t.prefix refl) None is)
    by_ending (Some (Committed stamp)) is = ended_committed stamp is
    by_ending (Some (Read prefix)) is = ended_read prefix is
    by_ending (Some (RolledBack cause prefix)) is = by_cause cause prefix is

  -- ---- where it goes on

  module _ (flies : is_flying s p ≡ true) where
    still_accounted : (n : ℕ) → IsAccountedBut p s n → IsAccounted s n
    still_accounted n (inl listed) = inl listed
    still_accounted n (inr entry) = elim (cases_eq (caller_at w n) p) [
      | inl own ↦ inr (rw own flies, entry.1)
      | inr apart ↦ inr (entry.0 apart, entry.1)
    ]

    own_tracked : TracksWorker job settings s p
    own_tracked =
        let own = old.midway.own in
        let left = own.left in
        record {
          lists = record {
            numbered = own.ordered.numbered;
            most = omega (arith, left);
            rows = own.ordered.rows_rise;
            rolled = own.ordered.lines_rise;
            between = own.ordered.between;
            seen = own.seen.0;
            rolled_seen = own.seen.1;
            since = λ apart flying. own.since apart;
          };
          known = own.known;
          settings_are = own.settings_are;
          serial = own.serial;
          stands = subst (λ (flying : Bool). MatchBool flying (Flies job s p) (Rests s p)) (sym flies) (record { told = old.told; left = own.left; made = own.made; early = own.early });
        }

    flying_tracked : Tracked lawful may job settings s
    flying_tracked = record {
      safe = old.midway.around.safe;
      alone = old.midway.around.alone;
      workers = λ q low high. elim (cases_eq q p) [ inl own ↦ rw own own_tracked | inr apart ↦ old.midway.around.workers q apart low high ];
      others = old.midway.around.others;
      rows = old.midway.around.rows;
      rolled = old.midway.around.rolled;
      accounted = λ n within. still_accounted n (old.midway.around.accounted n within);
    }

  pub ends_on : Tracked lawful may job settings (ends p s)
  unfolding flies_at
  ends_on = go t.stage refl
    where
      go : (stage : Stage) → t.stage ≡ stage → Tracked lawful may job settings (if flies_at stage then s else ended_with t.ending p s)
      go Ended ended = by_ending ended t.ending refl
      go stage is = flying_tracked (ap flies_at is)
