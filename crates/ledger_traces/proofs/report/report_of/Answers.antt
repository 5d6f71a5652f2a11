use Rattle.std.proofs.Common.{arith}
use Rattle.script_text.proofs.LineCounts.{may_be_traced}
use Rattle.script_text.proofs.WholeForm.{text_of_job}
use Rattle.ledger_traces.proofs.report.report_of.Goals as goal

pub for_job-settings-requires-clause-few : goal.for_job-settings-requires-clause-few
for_job-settings-requires-clause-few c =
    let whole = text_of_job c.args.text.now c.in-Ok.job c.in-Ok.ensures.parsed in
    omega (arith, whole.fits.workers)

pub listing_of-requires-clause-may : goal.listing_of-requires-clause-may
listing_of-requires-clause-may c =
    may_be_traced c.args.text.now c.in-Ok.job c.for_job-settings.result c.in-Ok.ensures.parsed (omega (arith, c.if-text-gt-LONGEST.false)) c.for_job-settings.ensures.callers
