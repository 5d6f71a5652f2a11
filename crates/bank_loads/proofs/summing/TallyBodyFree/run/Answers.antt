use Rattle.std.proofs.Common.{ap, refl}
use Rattle.std.specs.Prelude.{Ok}
use Rattle.bank_loads.proofs.Ends.{told_ran}
use Rattle.bank_loads.proofs.summing.TallyBodyFree.run.Goals as goal

pub returns-clause-ran : goal.returns-clause-ran
returns-clause-ran g c =
    told_ran _ _ g.C.Cells.law g.C.Cells.follows g.C.Cells.state _ _ _ c.make.result _ _ (λ l heap. tt) (λ l before after. tt)
    (λ out heap writes is. (refl, ap (λ total. Ok total) is.0, is.1, refl)) (λ heap. refl) c.make.ensures
