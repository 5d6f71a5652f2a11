use Rattle.std.proofs.Common.{◌≡◌}
use Rattle.stm_model.specs.Telling.{Reading}
use Rattle.bank_loads.specs.Counting.{tally_of}
use Rattle.bank_loads.proofs.summing.Tally.total.Given as goal

abbrev pub invariant-loop-step : goal.invariant-loop-step
invariant-loop-step g l =
    Reading (λ law heap. Unit {0}) g.C.Cells.law g.C.Cells.follows g.C.Cells.state l.initial.cells l.cells (λ heap. l.total ≡ tally_of l.step l.self.base heap)
