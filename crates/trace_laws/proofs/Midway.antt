-- What holds in the middle of a worker's turn: of its own listing, and of all else. Here s is the trace and p the worker.
use Rattle.std.proofs.Common.{◌≡◌, ◌≢◌, ◌⊎◌, ℕ, zero, suc, ◌+◌, ◌<◌, ◌≤◌, IsTrue, List, length, map, refl, sym, ap, ◌∙◌, arith, inl, inr, length-append}
use Rattle.std.proofs.lemmas.Bool.{cases_eq, cases_lt}
use Rattle.std.specs.List.{AllByRecursion, range_with_len}
use Rattle.stm_model.specs.Attempt.{Announce, Attempt, Ended, stamp_of}
use Rattle.stm_model.specs.History.{Entry, entry_after}
use Rattle.stm_model.specs.Safe.{IsKept, Safe, caller_at, serial_at}
use Rattle.stm_model.specs.World.{Event, IsCaller, MayHappen, MeetsOwed, Terms, View, World, attempt_of, entry_of, happened}
use Rattle.stm_model.specs.declared.settings.Settings.{Settings}
use Rattle.stm_model.proofs.HistoryLemmas.{entry_after-append}
use Rattle.opacity.specs.Alone.{IsAlone}
use Rattle.opacity.specs.Known.{IsKnown}
use Rattle.opacity.proofs.KnownEvents.{event_known}
use Rattle.opacity.proofs.LoneRuns.{event_alone, leaves_one}
use Rattle.opacity.proofs.Places.{replaced_else}
use Rattle.opacity.proofs.Steps.{event_safe}
use Rattle.ledger_model.specs.declared.job.Job.{Job}
use Rattle.ledger_model.specs.declared.listing.Rolled.{Rolled}
use Rattle.ledger_model.specs.declared.listing.Row.{Row}
use Rattle.ledger_model.specs.Replays.{MayPrecede, rolled_of, rows_of, scripts_of}
use Rattle.ledger_model.specs.Traced.{Progress, Trace, attempt_in, happens, is_flying, terms_of_job, with_progress}
use Rattle.ledger_model.proofs.Lists.{each_weaker}
use Rattle.trace_laws.proofs.Tracked.{ComesEarlier, HasWriter, ShowsRolled, ShowsRow, StandsBetween, TracksWorker}
use Rattle.trace_laws.proofs.Happening.{Affects, SinceStays}
use Rattle.trace_laws.proofs.Keeping.{IsNumbered}
use Rattle.trace_laws.proofs.Lasting.{lines_last, rows_last, worker_lasts}
use Rattle.trace_laws.proofs.Lists.{Ordered}
use Rattle.trace_laws.proofs.Stamping.{own_entry, own_stamp}

-- ---- its own listing

-- The worker's rows and rolled lines are numbered and stand in the order in which they came.
pub record AreOrdered (rows : List Row) (lines : List Rolled) : Type 0 where
  pub numbered : map (λ row. row.number) rows ≡ range_with_len 1 (length rows)
  pub rows_rise : Ordered ComesEarlier rows
  pub lines_rise : Ordered MayPrecede lines
  pub between : AllByRecursion (StandsBetween rows) lines

-- None of them is from later than the first n entries.
abbrev pub AreFrom : ℕ → List Row → List Rolled → Type 0
AreFrom n rows lines = AllByRecursion (λ row. row.position ≤ n) rows × AllByRecursion (λ rolled. rolled.prefix ≤ n) lines

pub from_later : (n m : ℕ) (rows : List Row) (lines : List Rolled) → n ≤ m → AreFrom n rows lines → AreFrom m rows lines
from_later n m rows lines low from = (
  each_weaker (λ (row : Row). row.position ≤ n) (λ (row : Row). row.position ≤ m) (λ row is. omega (arith, is, low)) rows from.0,
  each_weaker (λ (rolled : Rolled). rolled.prefix ≤ n) (λ (rolled : Rolled). rolled.prefix ≤ m) (λ rolled is. omega (arith, is, low)) lines from.1,
)

-- Who has committed has read from before its own entry.
abbrev pub IsEarly : Attempt → Type 0
IsEarly t = 0 < stamp_of t → t.prefix < stamp_of t

-- the worker has an attempt that isn't listed yet, of a script of its own
pub record Own (job : Job) (settings : Settings) (p : ℕ) (view : View) (rows : List Row) (lines : List Rolled) : Type 0 where
  pub ordered : AreOrdered rows lines
  pub seen : AreFrom view.seen rows lines
  pub since : view.attempt.stage ≢ Announce → AreFrom view.since rows lines
  pub known : IsKnown view
  pub settings_are : view.attempt.settings ≡ settings
  pub serial : view.attempt.serial ≤ settings.attempts
  pub left : length rows < length (scripts_of job p)
  pub made : suc (length rows + length lines) ≡ view.attempt.serial
  pub early : IsEarly view.attempt

-- ---- all else

-- The entry is that of a listed writer, or it is that of an attempt in flight or of the worker's attempt.
abbrev pub IsAccountedBut : ℕ → Trace → ℕ → Type 0
IsAccountedBut p s n = HasWriter s.rows (suc n) ⊎ ((caller_at s.world n ≢ p → IsTrue (is_flying s (caller_at s.world n))) × (stamp_of (attempt_in s (caller_at s.world n)) ≡ suc n))

pub record Around (lawful : List ℕ → Type 0) (may : List ℕ → List ℕ → Type 0) (job : Job) (settings : Settings) (p : ℕ) (s : Trace) : Type 0 where
  pub safe : Safe lawful may (terms_of_job job settings) s.world
  pub alone : settings.callers ≡ 1 → IsAlone s.world 1
  pub workers : (q : ℕ) → q ≢ p → 1 ≤ q → q ≤ length job.workers → TracksWorker job settings s q
  pub others : (q : ℕ) → length job.workers < q → (attempt_in s q).stage ≡ Ended
  pub rows : AllByRecursion (ShowsRow job settings s.world.history) s.rows
  pub rolled : AllByRecursion (ShowsRolled job settings s.world.history) s.rolled
  pub accounted : (n : ℕ) → n < length s.world.history → IsAccountedBut p s n

pub record Midway (lawful : List ℕ → Type 0) (may : List ℕ → List ℕ → Type 0) (job : Job) (settings : Settings) (p : ℕ) (s : Trace) : Type 0 where
  pub around : Around lawful may job settings p s
  pub own : Own job settings p (s.world.view p) (rows_of p s.rows) (rolled_of p s.rolled)

-- ---- the script comes on

module _ {lawful : List ℕ → Type 0} {may : List ℕ → List ℕ → Type 0} {job : Job} {settings : Settings} (p : ℕ) (now : Progress) (s : Trace) (old : Midway lawful may job settings p s) where
  pub comes_on : Midway lawful may job settings p (with_progress p now s)
  comes_on = record {
    around = record {
      safe = old.around.safe;
      alone = old.around.alone;
      workers = λ q apart low high. worker_lasts job settings s (with_progress p now s) q refl refl refl (replaced_else s.progress p now q apart) (old.around.workers q apart low high);
      others = old.around.others;
      rows = old.around.rows;
      rolled = old.around.rolled;
      accounted = old.around.accounted;
    };
    own = old.own;
  }

-- ---- an event of the worker's

-- What an event of the worker's needs: it may happen and owes nothing, it affects no more than it may, the attempt keeps its number and its settings and isn't let go, and where it has committed or commits it reads no more.
pub record IsOwnEvent (lawful : List ℕ → Type 0) (may : List ℕ → List ℕ → Type 0) (terms : Terms) (w : World) (p : ℕ) (event : Event) : Type 0 where
  pub able : MayHappen terms w event
  pub meets : MeetsOwed lawful may terms w event
  pub affects : Affects w (happened w event) p
  pub same : IsNumbered (attempt_of w p).serial (attempt_of w p).settings (attempt_of (happened w event) p)
  pub was_kept : IsKept (attempt_of w p).stage (attempt_of w p).ending
  pub kept : IsKept (attempt_of (happened w event) p).stage (attempt_of (happened w event) p).ending
  pub committed : (n : ℕ) → stamp_of (attempt_of w p) ≡ suc n → (attempt_of (happened w event) p).prefix ≡ (attempt_of w p).prefix
  pub commits : length w.history < length (happened w event).history → (attempt_of (happened w event) p).prefix ≡ (attempt_of w p).prefix

module _ {lawful : List ℕ → Type 0} {may : List ℕ → List ℕ → Type 0} {job : Job} {settings : Settings} (p : ℕ) (caller : IsCaller (terms_of_job job settings) p) (worker : p ≤ length job.workers)
    (s : Trace) (event : Event) (is : IsOwnEvent lawful may (terms_of_job job settings) s.world p event) (old : Midway lawful may job settings p s) where
  abbrev terms : Terms
  terms = terms_of_job job settings

  abbrev w : World
  w = s.world

  abbrev v : World
  v = happened w event

  safe_then : Safe lawful may terms v
  safe_then = event_safe lawful may terms w event is.able is.meets old.around.safe

  attempt_else : (q : ℕ) → q ≢ p → attempt_of v q ≡ attempt_of w q
  attempt_else q apart = ap (λ (view : View). view.attempt) (is.affects.others q apart)

  alone_then : settings.callers ≡ 1 → IsAlone v 1
  alone_then one =
      event_alone lawful may terms w 1 old.around.safe (omega arith, omega (arith, one)) (old.around.alone one) event (leaves_one terms w event one is.able) is.able

  -- ---- the history

  longer : length w.history ≤ length v.history
  longer = omega (arith, length-append w.history is.affects.grows.0, ap length is.affects.grows.1)

  old_entry : (n : ℕ) → n < length w.history → entry_after v.history n ≡ entry_after w.history n
  old_entry n within = ap (λ (history : List Entry). entry_after history n) is.affects.grows.1 ∙ entry_after-append w.history is.affects.grows.0 n within

  old_caller : (n : ℕ) → n < length w.history → caller_at v n ≡ caller_at w n
  old_caller n within = ap (λ (entry : Entry). entry.caller) (old_entry n within)

  -- an entry of the worker's attempt has its stamp
  stamped : (n : ℕ) → n < length v.history → caller_at v n ≡ p → serial_at v n ≡ (attempt_of w p).serial → IsAccountedBut p (happens event s) n
  stamped n within own serial =
      let stamp = own_stamp lawful may terms v p safe_then caller is.kept n within own (serial ∙ sym is.same.0) in
      inr (λ apart. absurd (apart own), rw own stamp)

  -- an entry that was accounted for by an attempt
  still : (n : ℕ) → n < length w.history → (caller_at w n ≢ p → IsTrue (is_flying s (caller_at w n))) → stamp_of (attempt_of w (caller_at w n)) ≡ suc n → IsAccountedBut p (happens event s) n
  still n within flies stamp = elim (cases_eq (caller_at w n) p) [
    | inl own ↦
        let here : stamp_of (attempt_of w p) ≡ suc n = rw own at stamp in
        let entry = own_entry lawful may terms w p old.around.safe caller n here in
        stamped n (omega (arith, within, longer)) (old_caller n within ∙ own) (ap (λ (entry : Entry). entry.serial) (old_entry n within ∙ entry.1))
    | inr apart ↦
        let same : caller_at v n ≡ caller_at w n = old_caller n within in
        inr (λ other. rw (same, attempt_else (caller_at w n) apart) (flies apart), rw (same, attempt_else (caller_at w n) apart) stamp)
  ]

  accounted_then : (n : ℕ) → n < length v.history → IsAccountedBut p (happens event s) n
  accounted_then n within = elim (cases_lt n (length w.history)) [
    | inl before ↦ elim (old.around.accounted n before) [ inl listed ↦ inl listed | inr flies ↦ still n before flies.0 flies.1 ]
    | inr new ↦
        let entry = is.affects.own n new within in
        stamped n within (entry.0 ∙ (old.around.safe.attempts p caller).sound.own) entry.1
  ]

  around_then : Around lawful may job settings p (happens event s)
  around_then = record {
    safe = safe_then;
    alone = alone_then;
    workers = λ q apart low high. worker_lasts job settings s (happens event s) q (is.affects.others q apart) refl refl refl (old.around.workers q apart low high);
    others = λ q past. ap (λ (t : Attempt). t.stage) (attempt_else q (λ same. absurd (omega (arith, same, past, worker)))) ∙ old.around.others q past;
    rows = rows_last job settings w.history v.history is.affects.grows s.rows old.around.rows;
    rolled = lines_last job settings w.history v.history is.affects.grows s.rolled old.around.rolled;
    accounted = accounted_then;
  }

  -- ---- its own listing

  since_then : SinceStays (w.view p) (v.view p) → (v.view p).attempt.stage ≢ Announce → AreFrom (v.view p).since (rows_of p s.rows) (rolled_of p s.rolled)
  since_then (inl stays) begun = rw stays.0 (old.own.since (λ announced. begun (stays.1 announced)))
  since_then (inr seen) begun = rw seen old.own.seen

  -- the entry with the attempt's new stamp was there, or it is new
  early_stamp : (n : ℕ) → stamp_of (attempt_of v p) ≡ suc n → (attempt_of v p).prefix < suc n
  early_stamp n stamp = elim (cases_lt n (length w.history)) [
    | inl before ↦
        let own = sym (old_caller n before) ∙ ap (λ (entry : Entry). entry.caller) entry.1 ∙ (safe_then.attempts p caller).sound.own in
        let serial = sym (ap (λ (entry : Entry). entry.serial) (old_entry n before)) ∙ ap (λ (entry : Entry). entry.serial) entry.1 ∙ is.same.0 in
        let was = own_stamp lawful may terms w p old.around.safe caller is.was_kept n before own serial in
        let early : (attempt_of w p).prefix < stamp_of (attempt_of w p) = old.own.early (omega (arith, was)) in
        omega (arith, was, early, is.committed n was)
    | inr new ↦ omega (arith, new, is.commits (omega (arith, new, entry.0)), (old.around.safe.attempts p caller).sound.prefix)
  ]
    where
      entry : (n < length v.history) × (entry_after v.history n ≡ entry_of (attempt_of v p))
      entry = own_entry lawful may terms v p safe_then caller n stamp

  early_then : IsEarly (attempt_of v p)
  early_then above = go (stamp_of (attempt_of v p)) refl above
    where
      go : (stamp : ℕ) → stamp_of (attempt_of v p) ≡ stamp → 0 < stamp → (attempt_of v p).prefix < stamp
      go zero none above = absurd (omega (arith, above))
      go (suc n) is above = early_stamp n is

  own_then : Own job settings p (v.view p) (rows_of p s.rows) (rolled_of p s.rolled)
  own_then = record {
    ordered = old.own.ordered;
    seen = from_later (w.view p).seen (v.view p).seen (rows_of p s.rows) (rolled_of p s.rolled) is.affects.seen old.own.seen;
    since = since_then is.affects.since;
    known = event_known lawful may terms w old.around.safe event p is.able old.own.known;
    settings_are = is.same.1 ∙ old.own.settings_are;
    serial = (let same = is.same.0 in omega (arith, same, old.own.serial));
    left = old.own.left;
    made = old.own.made ∙ sym is.same.0;
    early = early_then;
  }

  pub goes_on : Midway lawful may job settings p (happens event s)
  goes_on = record { around = around_then; own = own_then }
