use Rattle.std.proofs.Common.{◌≡◌, drop, replicate, vec_len}
use Rattle.ledger_model.specs.Contents.{opened}
use Rattle.host_trace.proofs.opening.opened_refs.Given as goal

abbrev pub invariant-loop-cell : goal.invariant-loop-cell
invariant-loop-cell l = record {
  sized : vec_len l.refs ≡ l.job.refs;
  rest : opened (drop l.cell-index l.job.openings) l.refs.items ≡ opened l.job.openings (replicate l.job.refs 0);
}
