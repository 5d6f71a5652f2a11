use Rattle.ledger_model.proofs.Asked.{run_leaves_maps, script_is_its_run}
use Rattle.ledger_model.proofs.laws.what_a_script_asks_is_its_run.Goals as goal

pub returns-clause-heard : goal.returns-clause-heard
returns-clause-heard c there script contents no_maps no_slots fit few = script_is_its_run there no_maps no_slots script.block 32 contents fit few

pub returns-clause-maps : goal.returns-clause-maps
returns-clause-maps c there script contents no_maps no_slots fit = run_leaves_maps there no_maps no_slots script.block 32 contents fit
