use Rattle.std.proofs.Common.{◌≡◌, ◌++◌, drop, map}
use Rattle.std.specs.List.{AllByRecursion}
use Rattle.text_lines.specs.Lines.{text_of}
use Rattle.ledger_model.specs.Report.{pair_line}
use Rattle.host_report.specs.WithinTypes.{IsPairWithinTypes}
use Rattle.host_report.proofs.lines.put_map.Given as goal

abbrev pub invariant-loop-pair : goal.invariant-loop-pair
invariant-loop-pair l = record {
  text : l.text.items ++ text_of (map (pair_line l.fn.word l.fn.number) (drop l.pair-index l.fn.pairs)) ≡ l.fn.text.items ++ text_of (map (pair_line l.fn.word l.fn.number) l.fn.pairs);
  within : AllByRecursion IsPairWithinTypes (drop l.pair-index l.fn.pairs) → AllByRecursion IsPairWithinTypes l.fn.pairs;
}
