use Rattle.meta_word.proofs.MetaLemmas.{meta_word_below, meta_of-fits, meta_of-meta_word, meta_word-meta_of}
use Rattle.meta_word.proofs.laws.meta_words_come_back.Goals as goal

pub returns-clause-below : goal.returns-clause-below
returns-clause-below c = meta_word_below

pub returns-clause-fits : goal.returns-clause-fits
returns-clause-fits c = meta_of-fits

pub returns-clause-fields : goal.returns-clause-fields
returns-clause-fields c = meta_of-meta_word

pub returns-clause-word : goal.returns-clause-word
returns-clause-word c = meta_word-meta_of
