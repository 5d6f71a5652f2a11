use Rattle.stm_model.specs.Telling.{Reading}
use Rattle.run_tests.proofs.guide.arrays.TotalBodyFree.run.Given as goal

-- There were only reads so far.
abbrev pub invariant-loop-index : goal.invariant-loop-index
invariant-loop-index g l = Reading (λ law heap. Unit {0}) g.C.Cells.law g.C.Cells.follows g.C.Cells.state l.initial.cells l.cells (λ heap. Unit {0})
