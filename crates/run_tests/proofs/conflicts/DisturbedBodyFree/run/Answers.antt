use Rattle.stm_model.proofs.RanLemmas.{run_wrote}
use Rattle.stm_model.proofs.TellingLemmas.{moments, wrote_nothing, wrote_then}
use Rattle.run_tests.proofs.conflicts.DisturbedBodyFree.run.Goals as goal

pub returns-clause-ran : goal.returns-clause-ran
returns-clause-ran g c =
    let m = moments (λ law heap. Unit {0}) g.C.Cells.law g.C.Cells.follows g.C.Cells.state g.met.C.Cells.follows_refl g.met.C.Cells.follows_trans in
    run_wrote (λ law heap. Unit {0}) (λ law before after. Unit {0}) g.C.Cells.law g.C.Cells.follows g.C.Cells.state _ _ (λ before after. Unit {0}) _ _ _
    (λ heap writes is. tt) (λ heap. tt) (λ none heap possible. (tt, tt))
    (wrote_then m _ _ _ _ _ (λ before after. Unit {0}) (λ first second third read put. tt)
    (wrote_then m _ _ _ _ _ (λ before after. Unit {0}) (λ first second third read put. tt)
    (wrote_nothing m _ _ _ c.in_ok-get.ensures.told) c.in_ok-set.ensures.told) c.in_ok-set-2.ensures.told)
