use Rattle.std.proofs.Common.{arith}
use Rattle.txn_level.proofs.Open.{open_around}
use Rattle.txn_level.proofs.levels.Levels.keep.Goals as goal

pub returns : goal.returns
returns c = rw (← c.self.view_is) (open_around c.self.inside.places c.self.inside.depth (omega arith))
