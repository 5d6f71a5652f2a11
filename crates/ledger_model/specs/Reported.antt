-- Which listings are shown whole by their reports.
use Rattle.std.specs.Prelude.{◌≡◌, ℕ, IsTrue, List, [], length}
use Rattle.std.specs.List.{AllByRecursion}
use Rattle.meta_word.specs.declared.status.Phase.TheVariants.{Doomed as IsDoomed}
use Rattle.stm_model.specs.declared.cause.Cause.{Cause}
use Rattle.stm_model.specs.declared.cause.Cause.TheVariants.{Doomed}
use Rattle.ledger_model.specs.declared.listing.Listing.{Listing}
use Rattle.ledger_model.specs.declared.listing.RowResult.{RowResult}
use Rattle.ledger_model.specs.declared.listing.RowResult.TheVariants.{Done}
use Rattle.ledger_model.specs.Report.{has_text}

-- each rolled attempt has a cause that a report can name
abbrev pub HaveTexts : Listing → Type 0
HaveTexts listing = AllByRecursion (λ rolled. IsTrue (has_text rolled.cause)) listing.rolled

-- what didn't take place printed nothing
abbrev pub PrintsIfDone : RowResult → List ℕ → Type 0
PrintsIfDone Done prints = Unit {0}
PrintsIfDone _ prints = prints ≡ []

-- a status that dooms shows that phase; the report has its serial alone
abbrev pub ShowsDoom : Cause → Type 0
ShowsDoom (Doomed status) = status.phase ≡ IsDoomed
ShowsDoom _ = Unit {0}

-- The report has all that the listing says, but for the number of its maps and slots, since empty ones have no line.
pub record IsReportedWhole (listing : Listing) : Type 0 where
  pub texts : HaveTexts listing
  pub prints : AllByRecursion (λ row. PrintsIfDone row.result row.prints) listing.rows
  pub dooms : AllByRecursion (λ rolled. ShowsDoom rolled.cause) listing.rolled

-- there are as many maps and slots in the one as in the other
pub record HaveAsMany (a b : Listing) : Type 0 where
  pub maps : length a.contents.maps ≡ length b.contents.maps
  pub slots : length a.contents.slots ≡ length b.contents.slots
