use Rattle.std.proofs.Common.{ℕ, List, ap}
use Rattle.ledger_model.specs.declared.job.Contents.{Contents}
use Rattle.host_trace.proofs.Lines.{listed}
use Rattle.host_trace.proofs.trace.Tracing.into_listing.Goals as goal

pub returns : goal.returns
returns c = λ s traces.
    listed traces _ c.args.opening c.sort.ensures.rows c.sort.ensures.in_order c.in_ok-rolled.ensures (c.in_ok-blocked.ensures s traces) (c.in_ok-worn.ensures s traces) c.requires.opening
    (ap (λ (refs : List ℕ). let contents : Contents = record c.args.opening { refs = refs } in contents) (c.in_ok-refs.ensures s.world traces.shows))
