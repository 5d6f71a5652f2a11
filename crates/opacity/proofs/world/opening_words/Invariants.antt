use Rattle.opacity.specs.Plain.{OpensTo}
use Rattle.opacity.proofs.world.opening_words.Given as goal

abbrev pub invariant-loop-i : goal.invariant-loop-i
invariant-loop-i l = OpensTo l.opening l.callers l.i l.words.items
