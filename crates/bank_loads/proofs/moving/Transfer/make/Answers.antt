use Rattle.std.proofs.Common.{◌∙◌, sym}
use Rattle.stm_model.proofs.TellingLemmas.{moments}
use Rattle.bank_loads.proofs.Steps.{told_both, told_less, told_still, told_transferred}
use Rattle.bank_loads.proofs.moving.Transfer.make.Goals as goal

pub returns-in_default : goal.returns-in_default
returns-in_default g c =
    let m = moments (λ law heap. Unit {0}) g.C.Cells.law g.C.Cells.follows g.C.Cells.state g.met.C.Cells.follows_refl g.met.C.Cells.follows_trans in
    told_still m _ _ c.args.self.now c.in_ok-there.there c.in_ok-here.here
    (told_both m _ c.get.new.self _ c.args.self.now c.in_ok-there.there c.in_ok-here.here c.in_ok-there.ensures c.in_ok-here.ensures)
    (sym c.after.ensures ∙ c.in_default.is)

pub returns : goal.returns
returns g c =
    let m = moments (λ law heap. Unit {0}) g.C.Cells.law g.C.Cells.follows g.C.Cells.state g.met.C.Cells.follows_refl g.met.C.Cells.follows_trans in
    told_transferred m _ c.set.new.self _ c.args.self.now c.in_ok-there.there c.in_ok-here.here c.in-Some.less c.in-Some.more _
    (sym c.after.ensures ∙ c.in-Some.is)
    (told_less m _ c.get-2.new.self _ c.args.self.now c.in_ok-there.there c.in_ok-here.here c.in-Some.less
    (told_both m _ c.get.new.self _ c.args.self.now c.in_ok-there.there c.in_ok-here.here c.in_ok-there.ensures c.in_ok-here.ensures)
    c.in_ok-set.ensures)
    c.set-2.ensures
