use Rattle.std.proofs.Common.{refl}
use Rattle.bank_loads.proofs.Ends.{told_ran}
use Rattle.bank_loads.proofs.moving.TransferBodyFree.run.Goals as goal

pub returns-clause-ran : goal.returns-clause-ran
returns-clause-ran g c =
    told_ran _ _ g.C.Cells.law g.C.Cells.follows g.C.Cells.state _ _ _ c.make.result _ _ (λ l heap. tt) (λ l before after. tt)
    (λ out heap writes is. (refl, refl, is, refl)) (λ heap. refl) c.make.ensures
