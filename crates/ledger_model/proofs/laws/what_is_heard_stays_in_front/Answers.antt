use Rattle.ledger_model.proofs.Hearing.{runs_stay, trail_stays}
use Rattle.ledger_model.proofs.laws.what_is_heard_stays_in_front.Goals as goal

pub returns-clause-trail : goal.returns-clause-trail
returns-clause-trail c = trail_stays

pub returns-clause-runs : goal.returns-clause-runs
returns-clause-runs c = runs_stay
