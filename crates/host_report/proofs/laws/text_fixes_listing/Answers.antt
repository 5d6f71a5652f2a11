use Rattle.host_report.proofs.ReportLemmas.{text_fixes_listing}
use Rattle.host_report.proofs.laws.text_fixes_listing.Goals as goal

pub returns : goal.returns
returns c = text_fixes_listing
