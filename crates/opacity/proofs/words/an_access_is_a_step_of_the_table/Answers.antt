use Rattle.opacity.proofs.TableStep.{table_step}
use Rattle.opacity.proofs.words.an_access_is_a_step_of_the_table.Goals as goal

pub returns : goal.returns
returns g c = λ law. table_step (g.L.Law.lawful law) (g.L.Law.may law)
