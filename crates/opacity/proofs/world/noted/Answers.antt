use Rattle.std.proofs.Common.{arith, sym}
use Rattle.opacity.proofs.PlainDecides.{taken_more}
use Rattle.opacity.proofs.world.noted.Goals as goal

pub loop-i-preserved : goal.loop-i-preserved
loop-i-preserved g c = (
  rw (c.in_ok-push.ensures.items, c.loop-i.invariant.0)
      (sym (taken_more (g.N.Notes.notes c.args.notes.now) c.loop-i.i c.at.result (omega (arith, c.loop-i-test.true, c.len-i-end.ensures)) c.at.ensures)),
  omega (arith, c.loop-i.invariant.1, c.push.ensures.capacity),
)
