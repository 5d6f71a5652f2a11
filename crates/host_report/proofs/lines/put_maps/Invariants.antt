use Rattle.std.proofs.Common.{◌≡◌, ◌++◌, drop}
use Rattle.std.specs.List.{AllByRecursion}
use Rattle.text_lines.specs.Lines.{text_of}
use Rattle.ledger_model.specs.Report.{pair_lines}
use Rattle.host_report.specs.WithinTypes.{IsMapWithinTypes}
use Rattle.host_report.proofs.ContentsLemmas.{lines_from}
use Rattle.host_report.proofs.lines.put_maps.Given as goal

abbrev pub invariant-loop-index : goal.invariant-loop-index
invariant-loop-index l = record {
  text : l.text.items ++ text_of (lines_from l.fn.word l.index (drop l.index l.fn.maps)) ≡ l.fn.text.items ++ text_of (pair_lines l.fn.word l.fn.maps);
  within : AllByRecursion IsMapWithinTypes (drop l.index l.fn.maps) → AllByRecursion IsMapWithinTypes l.fn.maps;
}
