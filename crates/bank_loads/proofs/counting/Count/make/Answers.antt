use Rattle.stm_model.proofs.TellingLemmas.{moments}
use Rattle.bank_loads.proofs.Steps.{told_counted}
use Rattle.bank_loads.proofs.counting.Count.make.Goals as goal

pub returns : goal.returns
returns g c =
    let m = moments (λ law heap. Unit {0}) g.C.Cells.law g.C.Cells.follows g.C.Cells.state g.met.C.Cells.follows_refl g.met.C.Cells.follows_trans in
    told_counted m _ c.get.new.self _ c.args.self.now.cell.0 c.in_ok-count.count _ c.in_ok-count.ensures c.set.ensures
