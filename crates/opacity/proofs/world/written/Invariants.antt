use Rattle.std.specs.Prelude.{◌≡◌, ◌≤◌, take, vec_capacity}
use Rattle.opacity.specs.Plain.{writes_in}
use Rattle.opacity.proofs.world.written.Given as goal

abbrev pub invariant-loop-i : goal.invariant-loop-i
invariant-loop-i g l = (l.list.items ≡ writes_in (take l.i (g.W.Notes.notes l.writes))) × (vec_capacity l.fn.room ≤ vec_capacity l.list)
