use Rattle.std.proofs.Common.{◌≡◌, length, nat_eq}
use Rattle.std.specs.Map.{lookup}
use Rattle.plain_cells.proofs.book.buffered.Given as goal

abbrev pub invariant-loop-write : goal.invariant-loop-write
invariant-loop-write l = lookup (nat_eq l.address) l.rest ≡ lookup (nat_eq l.address) l.fn.writes

abbrev pub decreases-loop-write : goal.decreases-loop-write
decreases-loop-write l = length l.rest
