use Rattle.ledger_model.proofs.MapLemmas.{value_at-delete, value_at-delete_other, value_at-put, value_at-put_other}
use Rattle.ledger_model.proofs.laws.a_key_has_what_it_was_given.Goals as goal

pub returns-clause-put : goal.returns-clause-put
returns-clause-put c = value_at-put

pub returns-clause-put_others : goal.returns-clause-put_others
returns-clause-put_others c = value_at-put_other

pub returns-clause-delete : goal.returns-clause-delete
returns-clause-delete c = value_at-delete

pub returns-clause-delete_others : goal.returns-clause-delete_others
returns-clause-delete_others c = value_at-delete_other
