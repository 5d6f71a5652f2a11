use Rattle.std.proofs.Common.{◌≡◌, ◌++◌, drop, flat_map}
use Rattle.text_lines.specs.Lines.{text_of}
use Rattle.script_text.specs.Printing.{worker_lines}
use Rattle.script_text.proofs.printing.put_workers.Given as goal

abbrev pub invariant-loop-scripts : goal.invariant-loop-scripts
invariant-loop-scripts l = l.text.items ++ text_of (flat_map worker_lines (drop l.scripts-index l.workers)) ≡ l.fn.text.items ++ text_of (flat_map worker_lines l.workers)
