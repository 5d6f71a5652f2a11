use Rattle.std.proofs.Common.{◌≡◌, ◌++◌, drop, map}
use Rattle.std.specs.List.{AllByRecursion}
use Rattle.text_lines.specs.Lines.{text_of}
use Rattle.ledger_model.specs.Report.{row_line}
use Rattle.host_report.specs.WithinTypes.{IsRowWithinTypes}
use Rattle.host_report.proofs.lines.put_rows.Given as goal

abbrev pub invariant-loop-row : goal.invariant-loop-row
invariant-loop-row l = record {
  text : l.text.items ++ text_of (map row_line (drop l.row-index l.fn.rows)) ≡ l.fn.text.items ++ text_of (map row_line l.fn.rows);
  within : AllByRecursion IsRowWithinTypes (drop l.row-index l.fn.rows) → AllByRecursion IsRowWithinTypes l.fn.rows;
}
