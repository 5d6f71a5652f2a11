use Rattle.std.proofs.Common.{sym}
use Rattle.text_lines.proofs.CutLemmas.{field_found, field_missed, bytes_found, rest_whole}
use Rattle.text_lines.proofs.read.cut_field.Goals as goal

pub returns-in-Some-clause-fields : goal.returns-in-Some-clause-fields
returns-in-Some-clause-fields c = rw rest_whole (field_found c.args.line.now c.in-Some.end (sym c.in-Some.ensures))

pub returns-in-Some-clause-bytes : goal.returns-in-Some-clause-bytes
returns-in-Some-clause-bytes c = rw rest_whole (bytes_found c.args.line.now c.in-Some.end (sym c.in-Some.ensures))

pub returns-in-None-clause-fields : goal.returns-in-None-clause-fields
returns-in-None-clause-fields c = field_missed c.args.line.now (sym c.in-None.ensures)
