use Rattle.std.proofs.Common.{Option, IsSome, ap, sym, subst, ◌∙◌}
use Rattle.stm_core.specs.declared.next.Next.{Next}
use Rattle.stm_model.specs.declared.ending.Ending.{Ending}
use Rattle.world_run.specs.Simulation.{attempt_in}
use Rattle.world_run.specs.Going.{told_ending}
use Rattle.world_run.proofs.Ran.{tells_ending, told_some}
use Rattle.world_run.proofs.simulation.Simulation.ending.Goals as goal

pub returns-clause-ending : goal.returns-clause-ending
returns-clause-ending g c =
    c.ending_in.ensures ∙ ap (λ (next : Option Next). told_ending next) c.next.ensures.next ∙ tells_ending (attempt_in c.args.self.now c.args.caller) c.requires.over

pub returns-clause-told : goal.returns-clause-told
returns-clause-told g c = λ some.
    subst (λ (ending : Option Ending). IsSome ending) (sym c.ending_in.ensures)
    (told_some (attempt_in c.args.self.now c.args.caller) c.next.result c.next.ensures.next c.requires.over (c.next.ensures.begun some))
