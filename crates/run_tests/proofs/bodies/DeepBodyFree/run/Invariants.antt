use Rattle.std.proofs.Common.{◌≡◌, ◌+◌, length}
use Rattle.stm_model.specs.Telling.{Leads}
use Rattle.run_tests.proofs.bodies.DeepBodyFree.run.Given as goal

-- So many levels were opened, and nothing else changed.
abbrev pub invariant-loop : goal.invariant-loop
invariant-loop g l = Leads g.C.Cells.law g.C.Cells.follows g.C.Cells.state l.initial.cells l.cells
    (λ before after. (after ≡ record before { saved = after.saved }) × (length after.saved ≡ length before.saved + l.counter))
