use Rattle.std.proofs.Common.{◌≡◌, ◌+◌, ◌≤◌, length, map}
use Rattle.text_lines.specs.Lines.{lines, words}
use Rattle.script_text.specs.JobText.{job_of}
use Rattle.script_text.specs.Reading.{job_from}
use Rattle.script_text.proofs.job_text.parse.Given as goal

-- reading on from here is reading from the start
abbrev pub invariant-loop-rest : goal.invariant-loop-rest
invariant-loop-rest l = record {
  reads : job_from l.reader l.number (map words (lines l.rest)) ≡ job_of l.fn.text;
  room : l.number + length l.rest ≤ 1 + length l.fn.text;
}

abbrev pub decreases-loop-rest : goal.decreases-loop-rest
decreases-loop-rest l = length l.rest
