use Rattle.std.proofs.Common.{◌≡◌, ap, refl, sym}
use Rattle.ref_views.specs.Operating.{called_on, exchanges}
use Rattle.ref_views.proofs.Attempted.{kept, operates}
use Rattle.ref_views.proofs.closures.exchange.Goals as goal

pub returns-clause-operates : goal.returns-clause-operates
returns-clause-operates g c =
    let f = c.args.f.now in
    let left = c.attempt.new.body.f.now in
    let same = c.f-1.given.1 (kept _ _ _ _ (λ b. c.body-1.given ≡ b.f.ghost_name) (λ heap out after b means. sym means.1) (λ heap lost. sym lost.1) refl
    c.args.caller.now.stm.now _ _ _ c.attempt.ensures.concludes) in
    rw same (operates g.T.WordValue.word_of g.T.WordValue.value_of c.args.cell.addr.0 (exchanges (λ f former value left. goal.F-step g f former value left) f left) (called_on (λ f former value left. goal.F-step g f former value left) f left) _ _ _ _
    (λ heap out after means. means.2) (λ heap cause after means. means.2) (λ heap lost. lost.2) (λ former out written does. (out.value, does.1.0)) (λ is. ap (λ b. b.f.now) is)
    c.args.caller.now.stm.now _ _ _ c.attempt.ensures.concludes)
