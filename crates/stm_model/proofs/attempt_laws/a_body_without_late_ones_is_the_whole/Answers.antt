use Rattle.stm_model.proofs.WholeLemmas.{run-of-whole, whole-of-run}
use Rattle.stm_model.proofs.attempt_laws.a_body_without_late_ones_is_the_whole.Goals as goal

pub returns : goal.returns
returns g c = λ body left heap out after nothing.
    (run-of-whole _ _ body left heap out after nothing, whole-of-run _ _ body left heap out after nothing)
