use Rattle.cell_index.proofs.Finding.{IsPast}
use Rattle.cell_index.proofs.index.find_along.Given as goal

abbrev pub invariant-loop-link : goal.invariant-loop-link
invariant-loop-link l = IsPast l.entries l.address l.link

abbrev pub decreases-loop-link : goal.decreases-loop-link
decreases-loop-link l = l.link
