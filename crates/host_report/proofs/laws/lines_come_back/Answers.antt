use Rattle.host_report.proofs.ReportLemmas.{lines_come_back, report_of_words}
use Rattle.host_report.proofs.laws.lines_come_back.Goals as goal

pub returns-clause-words : goal.returns-clause-words
returns-clause-words c = report_of_words

pub returns-clause-again : goal.returns-clause-again
returns-clause-again c = lines_come_back
