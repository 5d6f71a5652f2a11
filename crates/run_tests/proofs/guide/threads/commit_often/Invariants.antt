use Rattle.std.proofs.Common.{length}
use Rattle.run_tests.specs.Tables.{Begins}
use Rattle.run_tests.proofs.guide.threads.commit_often.Given as goal

abbrev pub invariant-loop : goal.invariant-loop
invariant-loop g l = Begins l.stm l.seat × g.B.Body.fits l.body l.stm.law (length l.stm.opening)
