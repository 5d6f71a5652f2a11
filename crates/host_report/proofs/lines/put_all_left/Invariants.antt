use Rattle.std.proofs.Common.{◌≡◌, ◌++◌, drop, map}
use Rattle.std.specs.List.{AllByRecursion}
use Rattle.text_lines.specs.Lines.{text_of}
use Rattle.ledger_model.specs.Report.{left_line}
use Rattle.host_report.specs.WithinTypes.{IsNameWithinTypes}
use Rattle.host_report.proofs.lines.put_all_left.Given as goal

abbrev pub invariant-loop-worker : goal.invariant-loop-worker
invariant-loop-worker l = record {
  text : l.text.items ++ text_of (map (left_line l.fn.word) (drop l.worker-index l.fn.names)) ≡ l.fn.text.items ++ text_of (map (left_line l.fn.word) l.fn.names);
  within : AllByRecursion IsNameWithinTypes (drop l.worker-index l.fn.names) → AllByRecursion IsNameWithinTypes l.fn.names;
}
