use Rattle.host_report.proofs.ReportLemmas.{one_text}
use Rattle.host_report.proofs.laws.one_text_one_listing.Goals as goal

pub returns : goal.returns
returns c = one_text
