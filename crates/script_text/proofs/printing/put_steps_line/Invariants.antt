use Rattle.std.proofs.Common.{◌≡◌, ◌++◌, codes, decimal, drop, map}
use Rattle.text_lines.specs.Lines.{spaced}
use Rattle.script_text.proofs.printing.put_steps_line.Given as goal

abbrev pub invariant-loop-worker : goal.invariant-loop-worker
invariant-loop-worker l = l.text.items ++ spaced (map decimal (drop l.worker-index l.steps)) ≡ (l.fn.text.items ++ codes "steps") ++ spaced (map decimal l.steps)
