use Rattle.text_lines.proofs.LineLemmas.{words_same, fields_same}
use Rattle.text_lines.proofs.laws.texts_differ.Goals as goal

pub returns-clause-words : goal.returns-clause-words
returns-clause-words c = words_same

pub returns-clause-fields : goal.returns-clause-fields
returns-clause-fields c = fields_same
