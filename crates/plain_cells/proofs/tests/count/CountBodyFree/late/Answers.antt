use Rattle.std.proofs.Common.{refl}
use Rattle.stm_model.specs.declared.cause.HookPhase.TheVariants.{Commit}
use Rattle.plain_cells.proofs.Counting.{Ran-hooked}
use Rattle.plain_cells.proofs.tests.count.CountBodyFree.late.Goals as goal

pub returns-clause-ran : goal.returns-clause-ran
returns-clause-ran g c =
    Ran-hooked _ _ g.C.Cells.law g.C.Cells.follows g.C.Cells.state _ _ Commit c.args.token _ c.hook.result _ _ (λ heap. tt) (λ before after. tt)
    (λ heap book. (refl, refl, refl)) (λ heap book. refl) c.hook.ensures
