use Rattle.text_lines.proofs.NumberLemmas.{number_of-plain, plain-plain, plain_is_word}
use Rattle.text_lines.proofs.laws.plain_says_the_same.Goals as goal

pub returns-clause-same : goal.returns-clause-same
returns-clause-same c = number_of-plain

pub returns-clause-again : goal.returns-clause-again
returns-clause-again c = plain-plain

pub returns-clause-word : goal.returns-clause-word
returns-clause-word c = plain_is_word
