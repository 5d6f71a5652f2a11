use Rattle.ledger_model.proofs.Growing.{block_ascend, run_ascend}
use Rattle.ledger_model.proofs.Listed.{listed_ascend}
use Rattle.ledger_model.proofs.MapLemmas.{KeysAscend-delete, KeysAscend-put}
use Rattle.ledger_model.proofs.laws.maps_ascend_by_their_keys.Goals as goal

pub returns-clause-put : goal.returns-clause-put
returns-clause-put c = KeysAscend-put

pub returns-clause-delete : goal.returns-clause-delete
returns-clause-delete c = KeysAscend-delete

pub returns-clause-block : goal.returns-clause-block
returns-clause-block c = block_ascend

pub returns-clause-run : goal.returns-clause-run
returns-clause-run c = run_ascend

pub returns-clause-listed : goal.returns-clause-listed
returns-clause-listed c = listed_ascend
