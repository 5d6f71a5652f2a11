use Rattle.stm_model.proofs.TellingLemmas.{moments}
use Rattle.bank_loads.proofs.Tallies.{told_added}
use Rattle.bank_loads.proofs.summing.Tally.make.Goals as goal

pub returns-in_ok-make : goal.returns-in_ok-make
returns-in_ok-make g c =
    let m = moments (λ law heap. Unit {0}) g.C.Cells.law g.C.Cells.follows g.C.Cells.state g.met.C.Cells.follows_refl g.met.C.Cells.follows_trans in
    told_added m _ c.total.new.cells _ c.args.self.now c.in_ok-total.total c.if-self.true c.in_ok-total.ensures c.in_ok-make.ensures
