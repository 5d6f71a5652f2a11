use Rattle.meta_word.proofs.StatusLemmas.{status_word_below, status_of-fits, status_of-status_word, status_word-status_of}
use Rattle.meta_word.proofs.laws.status_words_come_back.Goals as goal

pub returns-clause-below : goal.returns-clause-below
returns-clause-below c = status_word_below

pub returns-clause-fits : goal.returns-clause-fits
returns-clause-fits c = status_of-fits

pub returns-clause-fields : goal.returns-clause-fields
returns-clause-fields c = status_of-status_word

pub returns-clause-word : goal.returns-clause-word
returns-clause-word c = status_word-status_of
