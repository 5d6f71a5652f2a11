use Rattle.ledger_model.proofs.WordLemmas.{listed_words, run_words}
use Rattle.ledger_model.proofs.laws.all_numbers_are_words.Goals as goal

pub returns-clause-run : goal.returns-clause-run
returns-clause-run c there script contents fit words = run_words there script.block 32 contents fit words

pub returns-clause-listed : goal.returns-clause-listed
returns-clause-listed c = listed_words
