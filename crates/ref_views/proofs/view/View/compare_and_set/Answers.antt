use Rattle.std.proofs.Common.{inl}
use Rattle.ref_views.specs.Operating.{compares, untold}
use Rattle.ref_views.proofs.Attempted.{operates}
use Rattle.ref_views.proofs.view.View.compare_and_set.Goals as goal

pub returns-clause-operates : goal.returns-clause-operates
returns-clause-operates g c =
    operates g.T.WordValue.word_of g.T.WordValue.value_of c.args.self.now.cell.addr.0 (compares c.args.old c.args.new) untold _ _ _ _
    (λ heap out after means. means.1) (λ heap cause after means. means.1) (λ heap left. inl tt) (λ former out written does. tt) (λ same. tt)
    c.args.caller.now.stm.now _ _ _ c.attempt.ensures.concludes
