use Rattle.std.proofs.Common.{arith}
use Rattle.std.proofs.KnownBytes.{Appends-trans}
use Rattle.std.proofs.Math.Seq.{take-add}
use Rattle.std.proofs.lemmas.List.{take_rest}
use Rattle.stm_io.proofs.whole.write_whole.Goals as goal

pub loop-at-preserved : goal.loop-at-preserved
loop-at-preserved g c = record {
  appended = rw take-add (Appends-trans _ _ _ _ _ c.loop-at.invariant.appended (simp take_rest at c.in_ok-at.ensures.bytes));
  within = grind arith;
  never_falls = omega (arith, c.in_ok-at.ensures.cause.never_falls);
}
