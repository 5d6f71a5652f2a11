use Rattle.ref_views.specs.Operating.{called_on, exchanges, transforms_and_gets}
use Rattle.ref_views.proofs.Attempted.{answers}
use Rattle.ref_views.proofs.view.View.transform_and_get.Goals as goal

pub returns-clause-operates : goal.returns-clause-operates
returns-clause-operates g c =
    let f = c.args.f.now in
    let left = c.exchange.new.f in
    rw c.only_value.ensures (answers g.T.WordValue.word_of g.T.WordValue.value_of c.args.self.now.cell.addr.0
    (exchanges (λ f former value left. goal.F-step g f former value left) f left) (transforms_and_gets (λ f former value left. goal.F-step g f former value left) f left) (called_on (λ f former value left. goal.F-step g f former value left) f left) (λ out. out.value) (λ former out written does. does.1)
    c.args.caller.now.stm.now _ _ _ c.exchange.ensures.operates)
