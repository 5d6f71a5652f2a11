use Rattle.std.proofs.Common.{◌≡◌, ◌++◌, decimal, drop, map}
use Rattle.text_lines.specs.Lines.{spaced}
use Rattle.host_report.proofs.row.put_numbers.Given as goal

abbrev pub invariant-loop-number : goal.invariant-loop-number
invariant-loop-number l = l.text.items ++ spaced (map decimal (drop l.number-index l.fn.numbers)) ≡ l.fn.text.items ++ spaced (map decimal l.fn.numbers)
