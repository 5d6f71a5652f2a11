use Rattle.std.proofs.Common.{sym, ap, ◌∙◌}
use Rattle.text_lines.specs.Lines.{words}
use Rattle.text_lines.proofs.CutLemmas.{word_begins, begins_with_word, word_missed, rest_whole}
use Rattle.text_lines.proofs.read.cut_word.Goals as goal

pub first_word-requires-clause-begins : goal.first_word-requires-clause-begins
first_word-requires-clause-begins c = rw rest_whole (begins_with_word c.args.line.now c.in-Some.start (sym c.in-Some.ensures))

pub returns-in-Some-clause-words : goal.returns-in-Some-clause-words
returns-in-Some-clause-words c = word_begins c.args.line.now c.in-Some.start (sym c.in-Some.ensures) ∙ sym (ap words (rest_whole c.args.line.now c.in-Some.start)) ∙ c.first_word.ensures.cut

pub returns-in-None-clause-words : goal.returns-in-None-clause-words
returns-in-None-clause-words c = word_missed c.args.line.now (sym c.in-None.ensures)
