use Rattle.std.proofs.Common.{Result, Err, refl, arith, ap}
use Rattle.ledger_model.specs.declared.job.Job.{Job}
use Rattle.script_text.specs.declared.fault.ParseFault.{ParseFault}
use Rattle.script_text.proofs.LineCounts.{may_be_traced}
use Rattle.host_report.proofs.ReportLemmas.{replay_texts}
use Rattle.ledger_host.specs.Settings.{default_settings}
use Rattle.ledger_host.proofs.Cases.{refusal_of-explained}
use Rattle.ledger_host.proofs.host.report_of.Goals as goal

pub listing_of-requires : goal.listing_of-requires
listing_of-requires c =
    may_be_traced c.args.text.now c.in-Ok.job (default_settings c.in-Ok.job) c.in-Ok.ensures.parsed (omega (arith, c.requires)) refl

pub report_text-requires : goal.report_text-requires
report_text-requires c = replay_texts c.in-Ok.job (default_settings c.in-Ok.job) c.in_ok-listing-in-Ok.listing c.in_ok-listing-in-Ok.ensures.replays

pub returns-in-Err-clause-refused : goal.returns-in-Err-clause-refused
returns-in-Err-clause-refused c =
    rw c.from.ensures (refusal_of-explained c.args.text.now c.in-Err.fault
    (λ line reason is. c.in-Err.ensures.refused line reason (ap (λ (f : ParseFault). let r : Result Job ParseFault = Err f in r) is)))
