use Rattle.std.proofs.Common.{◌≡◌, ◌++◌, drop, map}
use Rattle.std.specs.List.{AllByRecursion}
use Rattle.text_lines.specs.Lines.{spaced}
use Rattle.ledger_model.specs.Report.{run_word}
use Rattle.host_report.specs.WithinTypes.{IsRunWithinTypes}
use Rattle.host_report.proofs.row.put_runs.Given as goal

abbrev pub invariant-loop-phase : goal.invariant-loop-phase
invariant-loop-phase l = record {
  text : l.text.items ++ spaced (map run_word (drop l.phase-index l.fn.runs)) ≡ l.fn.text.items ++ spaced (map run_word l.fn.runs);
  within : AllByRecursion IsRunWithinTypes (drop l.phase-index l.fn.runs) → AllByRecursion IsRunWithinTypes l.fn.runs;
}
