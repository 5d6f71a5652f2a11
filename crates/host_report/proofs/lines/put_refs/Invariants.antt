use Rattle.std.proofs.Common.{◌≡◌, ◌++◌, drop, map}
use Rattle.std.specs.List.{enumerate_from}
use Rattle.text_lines.specs.Lines.{text_of}
use Rattle.ledger_model.specs.Report.{ref_line, ref_lines}
use Rattle.host_report.proofs.lines.put_refs.Given as goal

abbrev pub invariant-loop-index : goal.invariant-loop-index
invariant-loop-index l =
    l.text.items ++ text_of (map ref_line (enumerate_from l.index (drop l.index l.fn.refs))) ≡ l.fn.text.items ++ text_of (ref_lines l.fn.refs)
