use Rattle.std.proofs.Common.{◌≡◌, length}
use Rattle.text_lines.specs.Lines.{words}
use Rattle.script_text.specs.Line.{workers_of}
use Rattle.script_text.proofs.WorkerNumbers.{workers_from}
use Rattle.script_text.proofs.line.workers_of.Given as goal

-- reading on from here is reading from the start
abbrev pub invariant-loop-word : goal.invariant-loop-word
invariant-loop-word l = workers_from l.in_range l.numbers l.workers (words l.rest) ≡ workers_of l.workers (words l.args)

abbrev pub decreases-loop-word : goal.decreases-loop-word
decreases-loop-word l = length l.rest
