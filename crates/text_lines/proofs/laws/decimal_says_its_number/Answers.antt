use Rattle.std.proofs.lemmas.Fmt.{decimal_injective}
use Rattle.text_lines.proofs.NumberLemmas.{decimal_word, number_of-decimal}
use Rattle.text_lines.proofs.laws.decimal_says_its_number.Goals as goal

pub returns-clause-word : goal.returns-clause-word
returns-clause-word c = decimal_word

pub returns-clause-number : goal.returns-clause-number
returns-clause-number c = number_of-decimal

pub returns-clause-differ : goal.returns-clause-differ
returns-clause-differ c = decimal_injective
