-- Private: what holds of a trace after each turn. Here s is the trace, p a worker and h the history of the trace's world.
use Rattle.std.specs.Prelude.{◌≡◌, ◌≢◌, ℕ, suc, ◌+◌, ◌-◌, ◌<◌, ◌≤◌, ◌⊎◌, true, IsTrue, MatchBool, List, [], ◌∷◌, ◌++◌, length, map, Some}
use Rattle.std.specs.List.{AllByRecursion, range_with_len}
use Rattle.opacity.specs.Alone.{IsAlone}
use Rattle.opacity.specs.Known.{IsKnown}
use Rattle.stm_model.specs.Attempt.{Announce, Ended, stamp_of}
use Rattle.stm_model.specs.History.{Entry, entry_after, state}
use Rattle.stm_model.specs.Safe.{EndsWith, Safe, caller_at}
use Rattle.stm_model.specs.declared.cause.Cause.TheVariants.{Retry}
use Rattle.stm_model.specs.declared.ending.Ending.TheVariants.{Rolled as RolledBack}
use Rattle.stm_model.specs.declared.settings.Settings.{Settings}
use Rattle.ledger_model.specs.declared.job.Contents.{Contents}
use Rattle.ledger_model.specs.declared.job.Job.{Job}
use Rattle.ledger_model.specs.declared.listing.Rolled.{Rolled}
use Rattle.ledger_model.specs.declared.listing.Row.{Row}
use Rattle.ledger_model.specs.Contents.{opening_contents}
use Rattle.ledger_model.specs.Replays.{MayPrecede, NamesScript, TellsReader, TellsRolled, TellsWriter, block_of, rolled_of, rows_of, run_of, scripts_of, settled_by}
use Rattle.ledger_model.specs.Run.{Outcome}
use Rattle.ledger_model.specs.Traced.{Trace, attempt_in, is_flying, terms_of_job}
use Rattle.trace_laws.proofs.Lists.{Ordered}
use Rattle.trace_laws.proofs.Told.{IsTold, with_refs}

-- ---- what the history leaves

-- the contents after the first n entries of the history
abbrev pub contents_at : Job → List Entry → ℕ → Contents
contents_at job h n = with_refs (opening_contents job) (state (opening_contents job).refs h n)

-- what a script does, run alone on what the first n entries left
abbrev pub run_at : Job → List Entry → ℕ → ℕ → ℕ → Outcome
run_at job h worker number n = run_of job worker number (contents_at job h n)

-- ---- rows and rolled lines

-- A writer's entry stands at its position, and leaves what its script leaves.
pub record ShowsWriter (job : Job) (settings : Settings) (h : List Entry) (row : Row) : Type 0 where
  pub from : 0 < row.position
  pub own : (entry_after h (row.position - 1)).caller ≡ row.worker
  pub tells : TellsWriter settings row (run_at job h row.worker row.number (row.position - 1))
  pub leaves : (run_at job h row.worker row.number (row.position - 1)).after.contents ≡ contents_at job h row.position

-- what a row shows of its script, on what the history left at its position
pub record ShowsRow (job : Job) (settings : Settings) (h : List Entry) (row : Row) : Type 0 where
  pub named : NamesScript job row.worker row.number
  pub to : row.position ≤ length h
  pub drawn : row.drawn ≡ 0
  pub script : MatchBool row.writer (ShowsWriter job settings h row) (TellsReader settings row (run_at job h row.worker row.number row.position))

-- what a rolled line shows of its script, on what the history left at its prefix
pub record ShowsRolled (job : Job) (settings : Settings) (h : List Entry) (rolled : Rolled) : Type 0 where
  pub named : NamesScript job rolled.worker rolled.number
  pub to : rolled.prefix ≤ length h
  pub tells : TellsRolled job settings rolled (run_at job h rolled.worker rolled.number rolled.prefix)

-- ---- workers

-- A row of a worker comes before another of its own: it is listed earlier, and no position is past the other's; a writer's is greater than all before it.
pub record ComesEarlier (first second : Row) : Type 0 where
  pub number : first.number < second.number
  pub position : MatchBool second.writer (first.position < second.position) (first.position ≤ second.position)

-- A rolled line comes between the row of the script before and that of its own.
pub record StandsBetween (rows : List Row) (rolled : Rolled) : Type 0 where
  pub number : rolled.number ≤ suc (length rows)
  pub behind : AllByRecursion (λ row. row.number < rolled.number → row.position ≤ rolled.prefix) rows
  pub before : AllByRecursion (λ row. rolled.number ≤ row.number → MatchBool row.writer (rolled.prefix < row.position) (rolled.prefix ≤ row.position)) rows

-- how many of a worker's attempts are over
abbrev pub over_of : Trace → ℕ → ℕ
over_of s p = settled_by s.rows p + length (rolled_of p s.rolled)

-- its rows and rolled lines, in the order in which they came
pub record ListsWorker (job : Job) (s : Trace) (p : ℕ) : Type 0 where
  pub numbered : map (λ row. row.number) (rows_of p s.rows) ≡ range_with_len 1 (settled_by s.rows p)
  pub most : settled_by s.rows p ≤ length (scripts_of job p)
  pub rows : Ordered ComesEarlier (rows_of p s.rows)
  pub rolled : Ordered MayPrecede (rolled_of p s.rolled)
  pub between : AllByRecursion (StandsBetween (rows_of p s.rows)) (rolled_of p s.rolled)
  -- all of them are from what it had seen by the first access of its attempt in flight
  pub seen : AllByRecursion (λ row. row.position ≤ (s.world.view p).seen) (rows_of p s.rows)
  pub rolled_seen : AllByRecursion (λ rolled. rolled.prefix ≤ (s.world.view p).seen) (rolled_of p s.rolled)
  pub since : (attempt_in s p).stage ≢ Announce → IsTrue (is_flying s p) → AllByRecursion (λ row. row.position ≤ (s.world.view p).since) (rows_of p s.rows)
      × AllByRecursion (λ rolled. rolled.prefix ≤ (s.world.view p).since) (rolled_of p s.rolled)

-- an attempt in flight, with its script
pub record Flies (job : Job) (s : Trace) (p : ℕ) : Type 0 where
  pub told : IsTold (opening_contents job) (block_of job p (suc (settled_by s.rows p))) (attempt_in s p) (s.progress p)
  pub left : settled_by s.rows p < length (scripts_of job p)
  pub made : suc (over_of s p) ≡ (attempt_in s p).serial
  -- who has committed has read from before its own entry
  pub early : 0 < stamp_of (attempt_in s p) → (attempt_in s p).prefix < stamp_of (attempt_in s p)

-- Its latest attempt is over, and is listed. Where it asked for a retry, the last rolled line says so.
pub record Rests (s : Trace) (p : ℕ) : Type 0 where
  pub nothing_due : (attempt_in s p).due ≡ []
  pub made : over_of s p ≡ (attempt_in s p).serial
  pub retried : (prefix : ℕ) → (attempt_in s p).ending ≡ Some (RolledBack Retry prefix) →
      (rolled : Rolled) × EndsWith (rolled_of p s.rolled) (rolled ∷ []) × (rolled.number ≡ suc (settled_by s.rows p)) × (rolled.cause ≡ Retry) × (rolled.prefix ≡ prefix)

pub record TracksWorker (job : Job) (settings : Settings) (s : Trace) (p : ℕ) : Type 0 where
  pub lists : ListsWorker job s p
  pub known : IsKnown (s.world.view p)
  pub settings_are : (attempt_in s p).settings ≡ settings
  pub serial : (attempt_in s p).serial ≤ settings.attempts
  pub stands : MatchBool (is_flying s p) (Flies job s p) (Rests s p)

-- ---- the history

-- The row is one of them, and a writer at this position.
pub record HasWriter (rows : List Row) (position : ℕ) : Type 0 where
  pub before : List Row
  pub row : Row
  pub behind : List Row
  pub whole : rows ≡ before ++ row ∷ behind
  pub writer : row.writer ≡ true
  pub at : row.position ≡ position

-- The entry is that of a listed writer, or its attempt is still in flight.
abbrev pub IsAccounted : Trace → ℕ → Type 0
IsAccounted s n = HasWriter s.rows (suc n) ⊎ (IsTrue (is_flying s (caller_at s.world n)) × (stamp_of (attempt_in s (caller_at s.world n)) ≡ suc n))

-- ---- the whole

pub record Tracked (lawful : List ℕ → Type 0) (may : List ℕ → List ℕ → Type 0) (job : Job) (settings : Settings) (s : Trace) : Type 0 where
  pub safe : Safe lawful may (terms_of_job job settings) s.world
  pub alone : settings.callers ≡ 1 → IsAlone s.world 1
  pub workers : (p : ℕ) → 1 ≤ p → p ≤ length job.workers → TracksWorker job settings s p
  -- who has no scripts has made no attempt
  pub others : (p : ℕ) → length job.workers < p → (attempt_in s p).stage ≡ Ended
  pub rows : AllByRecursion (ShowsRow job settings s.world.history) s.rows
  pub rolled : AllByRecursion (ShowsRolled job settings s.world.history) s.rolled
  pub accounted : (n : ℕ) → n < length s.world.history → IsAccounted s n
