use Rattle.std.proofs.Common.{map, string_bytes}
use Rattle.host_report.proofs.ReportLemmas.{text_fixes_listing}
use Rattle.ledger_host.specs.Settings.{default_settings}
use Rattle.ledger_host.proofs.Cases.{done_only, refusal_only}
use Rattle.ledger_host.proofs.host.host_plain.Goals as goal

pub returns-clause-refused : goal.returns-clause-refused
returns-clause-refused g c =
    refusal_only g.S.Source.left g.S.Source.faults g.K.Sink.held g.K.Sink.faults (map string_bytes c.args.words.now) default_settings
    c.args.source.now c.answer.new.source c.args.sink.now c.answer.new.sink c.answer.result c.answer.ensures

pub returns-clause-report_fixes_listing : goal.returns-clause-report_fixes_listing
returns-clause-report_fixes_listing g c = text_fixes_listing

pub returns-clause-complete : goal.returns-clause-complete
returns-clause-complete g c =
    done_only g.S.Source.left g.S.Source.faults g.K.Sink.held g.K.Sink.faults (map string_bytes c.args.words.now) default_settings
    c.args.source.now c.answer.new.source c.args.sink.now c.answer.new.sink c.answer.result c.answer.ensures
