use Rattle.stm_model.proofs.AttemptLemmas.{released-is-undone, runs-due}
use Rattle.stm_model.proofs.attempt_laws.a_released_level_is_undone.Goals as goal

pub returns-clause-runs : goal.returns-clause-runs
returns-clause-runs c = runs-due

pub returns-clause-undone : goal.returns-clause-undone
returns-clause-undone c = released-is-undone
