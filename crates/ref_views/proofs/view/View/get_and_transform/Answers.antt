use Rattle.ref_views.specs.Operating.{called_on, exchanges, gets_and_transforms}
use Rattle.ref_views.proofs.Attempted.{answers}
use Rattle.ref_views.proofs.view.View.get_and_transform.Goals as goal

pub returns-clause-operates : goal.returns-clause-operates
returns-clause-operates g c =
    let f = c.args.f.now in
    let left = c.exchange.new.f in
    rw c.only_former.ensures (answers g.T.WordValue.word_of g.T.WordValue.value_of c.args.self.now.cell.addr.0
    (exchanges (λ f former value left. goal.F-step g f former value left) f left) (gets_and_transforms (λ f former value left. goal.F-step g f former value left) f left) (called_on (λ f former value left. goal.F-step g f former value left) f left) (λ out. out.former) (λ former out written does. (does.0, (out.value, does.1.0, does.1.1)))
    c.args.caller.now.stm.now _ _ _ c.exchange.ensures.operates)
