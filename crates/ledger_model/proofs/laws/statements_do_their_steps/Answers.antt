use Rattle.ledger_model.proofs.Meaning.{itself-known, meaning-roll}
use Rattle.ledger_model.proofs.laws.statements_do_their_steps.Goals as goal

pub returns-clause-steps : goal.returns-clause-steps
returns-clause-steps c = meaning-roll

pub returns-clause-itself : goal.returns-clause-itself
returns-clause-itself c = itself-known
