use Rattle.opacity.proofs.Truths.{written_owned}
use Rattle.opacity.proofs.laws.what_is_written_is_owned.Goals as goal

pub returns : goal.returns
returns g c = λ law terms w p cell safe caller stands within writes. written_owned terms w p cell (safe.cells cell within) caller.0 stands writes
