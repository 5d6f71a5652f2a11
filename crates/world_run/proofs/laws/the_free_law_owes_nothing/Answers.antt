use Rattle.world_run.proofs.Free.{any_asks}
use Rattle.world_run.proofs.laws.the_free_law_owes_nothing.Goals as goal

pub returns-clause-asks : goal.returns-clause-asks
returns-clause-asks c = λ law size writes levels asks. any_asks size writes levels asks
