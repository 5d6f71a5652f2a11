use Rattle.std.proofs.Common.{◌≡◌, ◌++◌, drop, map}
use Rattle.std.specs.List.{AllByRecursion}
use Rattle.text_lines.specs.Lines.{text_of}
use Rattle.ledger_model.specs.Report.{rolled_line}
use Rattle.host_report.specs.WithinTypes.{IsRolledWithinTypes}
use Rattle.host_report.proofs.lines.put_all_rolled.Given as goal

abbrev pub invariant-loop-attempt : goal.invariant-loop-attempt
invariant-loop-attempt l = record {
  text : l.text.items ++ text_of (map rolled_line (drop l.attempt-index l.fn.rolled)) ≡ l.fn.text.items ++ text_of (map rolled_line l.fn.rolled);
  within : AllByRecursion IsRolledWithinTypes (drop l.attempt-index l.fn.rolled) → AllByRecursion IsRolledWithinTypes l.fn.rolled;
}
