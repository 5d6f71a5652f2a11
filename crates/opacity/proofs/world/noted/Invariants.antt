use Rattle.std.specs.Prelude.{◌≡◌, ◌≤◌, take, vec_capacity}
use Rattle.opacity.proofs.world.noted.Given as goal

abbrev pub invariant-loop-i : goal.invariant-loop-i
invariant-loop-i g l = (l.list.items ≡ take l.i (g.N.Notes.notes l.notes)) × (vec_capacity l.fn.room ≤ vec_capacity l.list)
