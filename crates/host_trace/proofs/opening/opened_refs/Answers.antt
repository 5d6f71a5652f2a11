use Rattle.std.proofs.Common.{◌<◌, ℕ}
use Rattle.std.proofs.lemmas.List.Elements.{All-from_recursion}
use Rattle.host_trace.proofs.Openings.{openings_within}
use Rattle.host_trace.proofs.opening.opened_refs.Goals as goal

pub index_mut-requires : goal.index_mut-requires
index_mut-requires c =
    let within = All-from_recursion (λ (opening : ℕ × ℕ). opening.0 < c.args.job.now.refs) c.args.job.now.openings (openings_within c.args.job.now.refs 0 c.args.job.now.openings c.requires) in
    rw (c.as_slice-cell-items.ensures, c.loop-cell.invariant.sized) (within c.loop-cell.cell-index (0, 0) (rw (← c.as_slice-cell-items.ensures) c.loop-cell-test.true))
