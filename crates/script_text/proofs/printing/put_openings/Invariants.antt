use Rattle.std.proofs.Common.{◌≡◌, ◌++◌, drop, map}
use Rattle.text_lines.specs.Lines.{text_of}
use Rattle.script_text.specs.Printing.{opening_line}
use Rattle.script_text.proofs.printing.put_openings.Given as goal

abbrev pub invariant-loop-cell : goal.invariant-loop-cell
invariant-loop-cell l = l.text.items ++ text_of (map opening_line (drop l.cell-index l.openings)) ≡ l.fn.text.items ++ text_of (map opening_line l.openings)
