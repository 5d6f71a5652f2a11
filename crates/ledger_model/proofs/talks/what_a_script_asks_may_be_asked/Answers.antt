use Rattle.std.proofs.Common.{arith}
use Rattle.ledger_model.proofs.Turning.{script_may}
use Rattle.ledger_model.proofs.talks.what_a_script_asks_may_be_asked.Goals as goal

pub returns : goal.returns
returns c there script fit few = script_may there script.block 32 (omega arith) fit few
