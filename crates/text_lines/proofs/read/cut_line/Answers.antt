use Rattle.std.proofs.Common.{sym}
use Rattle.text_lines.proofs.CutLemmas.{line_found, line_missed, rest_whole, none_left}
use Rattle.text_lines.proofs.read.cut_line.Goals as goal

pub returns-in-Some-clause-lines : goal.returns-in-Some-clause-lines
returns-in-Some-clause-lines c = rw rest_whole (line_found c.args.text.now c.in-Some.end (sym c.in-Some.ensures))

pub returns-in-None-clause-lines : goal.returns-in-None-clause-lines
returns-in-None-clause-lines c = rw none_left (line_missed c.args.text.now c.requires (sym c.in-None.ensures))
