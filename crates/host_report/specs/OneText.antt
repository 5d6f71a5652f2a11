-- The text of a listing fixes it.
use Rattle.std.specs.Prelude.{◌≡◌}
use Rattle.stm_model.specs.declared.settings.Settings.{Settings}
use Rattle.ledger_model.specs.declared.job.Job.{Job}
use Rattle.ledger_model.specs.declared.listing.Listing.{Listing}
use Rattle.ledger_model.specs.Replays.{Replays}
use Rattle.ledger_model.specs.Report.{report}
use Rattle.ledger_model.specs.Reported.{HaveAsMany, IsReportedWhole}
use Rattle.host_report.specs.WithinTypes.{IsWithinTypes}

-- Two listings that have one report are equal, where the report has all that they say and both have as many maps and slots.
abbrev pub OneTextOneListing : Type 0
OneTextOneListing =
    (a b : Listing) → IsWithinTypes a → IsWithinTypes b → IsReportedWhole a → IsReportedWhole b → HaveAsMany a b →
    report a ≡ report b → a ≡ b

-- Two listings that replay one job, each under settings of its own, and that have one report, are equal.
abbrev pub TextFixesListing : Type 0
TextFixesListing =
    (job : Job) (settings others : Settings) (a b : Listing) → IsWithinTypes a → IsWithinTypes b →
    Replays job settings a → Replays job others b → report a ≡ report b → a ≡ b
