use Rattle.std.proofs.Common.{◌≡◌, ◌++◌, drop, flat_map}
use Rattle.text_lines.specs.Lines.{text_of}
use Rattle.script_text.specs.Printing.{script_lines}
use Rattle.script_text.proofs.printing.put_scripts.Given as goal

abbrev pub invariant-loop-script : goal.invariant-loop-script
invariant-loop-script l = l.text.items ++ text_of (flat_map script_lines (drop l.script-index l.scripts)) ≡ l.fn.text.items ++ text_of (flat_map script_lines l.scripts)
