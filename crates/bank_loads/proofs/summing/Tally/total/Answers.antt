use Rattle.std.proofs.Common.{refl}
use Rattle.stm_model.proofs.TellingLemmas.{moments}
use Rattle.bank_loads.specs.Counting.{cell_behind}
use Rattle.bank_loads.proofs.Tallies.{told_cell}
use Rattle.bank_loads.proofs.summing.Tally.total.Goals as goal

pub loop-step-preserved : goal.loop-step-preserved
loop-step-preserved g c =
    let m = moments (λ law heap. Unit {0}) g.C.Cells.law g.C.Cells.follows g.C.Cells.state g.met.C.Cells.follows_refl g.met.C.Cells.follows_trans in
    told_cell m _ c.loop-step.cells _ c.loop-step.step c.args.self.now.base (cell_behind c.args.self.now.base c.loop-step.step) c.loop-step.total c.in_ok-total.field-0 refl
    c.loop-step.invariant c.in_ok-total.ensures
