use Rattle.std.proofs.Common.{refl}
use Rattle.ledger_model.specs.Maps.{hash}
use Rattle.ledger_model.proofs.laws.hashes_spread_upwards.Goals as goal

pub returns-clause-low : goal.returns-clause-low
unfolding hash
returns-clause-low c = refl

pub returns-clause-next : goal.returns-clause-next
unfolding hash
returns-clause-next c = refl
