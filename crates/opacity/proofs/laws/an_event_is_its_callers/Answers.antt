use Rattle.opacity.proofs.Effects.{history_after, others_views}
use Rattle.opacity.proofs.laws.an_event_is_its_callers.Goals as goal

pub returns-clause-views : goal.returns-clause-views
returns-clause-views c = others_views

pub returns-clause-history : goal.returns-clause-history
returns-clause-history c = history_after
