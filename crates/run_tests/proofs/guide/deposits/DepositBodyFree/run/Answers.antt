use Rattle.std.proofs.Common.{refl, ap}
use Rattle.std.specs.Prelude.{Ok}
use Rattle.stm_model.proofs.RanLemmas.{run_wrote}
use Rattle.stm_model.proofs.TellingLemmas.{moments, wrote_nothing, wrote_then}
use Rattle.run_tests.proofs.Deposits.{deposited_by}
use Rattle.run_tests.proofs.guide.deposits.DepositBodyFree.run.Goals as goal

pub returns-clause-ran : goal.returns-clause-ran
returns-clause-ran g c =
    let m = moments (λ law heap. Unit {0}) g.C.Cells.law g.C.Cells.follows g.C.Cells.state g.met.C.Cells.follows_refl g.met.C.Cells.follows_trans in
    run_wrote (λ law heap. Unit {0}) (λ law before after. Unit {0}) g.C.Cells.law g.C.Cells.follows g.C.Cells.state _ _ _ _ _ _
    (λ heap writes is. (ap Ok is.0, is.1)) (λ heap. refl) (λ none heap possible. (tt, tt))
    (wrote_then m _ _ _ _ _ _
    (λ first second third read put. deposited_by c.args.self.now.account.addr.0 c.args.self.now.amount c.in_ok-balance.balance first second third read put.heap)
    (wrote_nothing m _ _ _ c.in_ok-balance.ensures.told) c.in_ok-set.ensures.told)
