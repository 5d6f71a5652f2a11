-- The numbers that a report shows, within the types of their fields.
use Rattle.std.specs.Prelude.{◌≡◌, ℕ, ◌<◌, ◌^◌, List, length}
use Rattle.std.specs.List.{AllByRecursion}
use Rattle.meta_word.specs.declared.meta.Meta.{Meta}
use Rattle.stm_model.specs.declared.cause.Cause.{Cause}
use Rattle.stm_model.specs.declared.cause.Cause.TheVariants.{ReadConflict, Moved, Stale, WriteConflict, Doomed, ClockMoved}
use Rattle.stm_model.specs.declared.cause.HookPhase.{HookPhase}
use Rattle.ledger_model.specs.declared.job.Contents.{Contents}
use Rattle.ledger_model.specs.declared.listing.Listing.{Listing}
use Rattle.ledger_model.specs.declared.listing.Rolled.{Rolled}
use Rattle.ledger_model.specs.declared.listing.Row.{Row}
use Rattle.ledger_model.specs.declared.listing.RowResult.{RowResult}
use Rattle.ledger_model.specs.declared.listing.RowResult.TheVariants.{Done, Fail, Spent, Full}

-- a number of 64 bits
abbrev pub IsWord : ℕ → Type 0
IsWord n = n < 2 ^ 64

-- Each entry of the list is within its type, and the list's length is a word.
pub record EachWithin {X : Type 0} (P : X → Type 0) (xs : List X) : Type 0 where
  pub each : AllByRecursion P xs
  pub count : IsWord (length xs)

-- a worker's number and a script's
pub record IsNameWithinTypes (name : ℕ × ℕ) : Type 0 where
  pub worker : name.0 < 2 ^ 16
  pub number : name.1 < 2 ^ 32

-- ---- rows

abbrev pub IsResultWithinTypes : RowResult → Type 0
IsResultWithinTypes Done = Unit {0}
IsResultWithinTypes (Fail code) = code < 2 ^ 16
IsResultWithinTypes Spent = Unit {0}
IsResultWithinTypes (Full used allowance) = IsWord used × IsWord allowance

abbrev pub IsRunWithinTypes : HookPhase × ℕ → Type 0
IsRunWithinTypes run = IsWord run.1

-- What the types of a row's fields allow. Only what a script printed that took place is shown.
pub record IsRowWithinTypes (row : Row) : Type 0 where
  pub position : IsWord row.position
  pub name : IsNameWithinTypes (row.worker, row.number)
  pub result : IsResultWithinTypes row.result
  pub prints : row.result ≡ Done → AllByRecursion IsWord row.prints
  pub runs : AllByRecursion IsRunWithinTypes row.runs
  pub drawn : IsWord row.drawn

-- ---- attempts that were rolled back

pub record IsMetaWithinTypes (meta : Meta) : Type 0 where
  pub owner : meta.owner < 2 ^ 16
  pub version : IsWord meta.version

-- what the types allow for a cause that a report can name
abbrev pub IsCauseWithinTypes : Cause → Type 0
IsCauseWithinTypes (ReadConflict addr meta) = (addr.0 < 2 ^ 32) × IsMetaWithinTypes meta
IsCauseWithinTypes (Moved addr first second) = (addr.0 < 2 ^ 32) × IsMetaWithinTypes first × IsMetaWithinTypes second
IsCauseWithinTypes (Stale addr version meta) = (addr.0 < 2 ^ 32) × IsWord version × IsMetaWithinTypes meta
IsCauseWithinTypes (WriteConflict addr meta) = (addr.0 < 2 ^ 32) × IsMetaWithinTypes meta
IsCauseWithinTypes (Doomed status) = IsWord status.serial
IsCauseWithinTypes (ClockMoved first second) = IsWord first × IsWord second
IsCauseWithinTypes _ = Unit {0}

pub record IsRolledWithinTypes (rolled : Rolled) : Type 0 where
  pub name : IsNameWithinTypes (rolled.worker, rolled.number)
  pub prefix : IsWord rolled.prefix
  pub cause : IsCauseWithinTypes rolled.cause
  pub trail : AllByRecursion IsWord rolled.trail

-- ---- contents

abbrev pub IsPairWithinTypes : ℕ × ℕ → Type 0
IsPairWithinTypes pair = IsWord pair.0 × IsWord pair.1

-- the pairs of a map or of a slot
abbrev pub IsMapWithinTypes : List (ℕ × ℕ) → Type 0
IsMapWithinTypes pairs = AllByRecursion IsPairWithinTypes pairs

pub record AreContentsWithinTypes (contents : Contents) : Type 0 where
  pub refs : EachWithin IsWord contents.refs
  pub maps : EachWithin IsMapWithinTypes contents.maps
  pub slots : EachWithin IsMapWithinTypes contents.slots
  pub used : IsWord contents.used

-- ---- the whole

-- what the types allow for all that a listing's report shows
pub record IsWithinTypes (listing : Listing) : Type 0 where
  pub rows : EachWithin IsRowWithinTypes listing.rows
  pub rolled : AllByRecursion IsRolledWithinTypes listing.rolled
  pub blocked : AllByRecursion IsNameWithinTypes listing.blocked
  pub worn : AllByRecursion IsNameWithinTypes listing.worn
  pub contents : AreContentsWithinTypes listing.contents
