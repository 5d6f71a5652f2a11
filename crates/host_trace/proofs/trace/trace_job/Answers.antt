use Rattle.std.proofs.lemmas.Result.{IfOk-weaker}
use Rattle.host_trace.proofs.Onward.{tracing_then}
use Rattle.host_trace.proofs.Starting.{traced, tracing_behind}
use Rattle.host_trace.proofs.trace.trace_job.Goals as goal

pub finish-requires : goal.finish-requires
finish-requires c = tracing_behind c.in_ok-tracing.ensures c.in_ok-take_steps.ensures

pub into_listing-requires-clause-stands : goal.into_listing-requires-clause-stands
into_listing-requires-clause-stands c = tracing_then (tracing_behind c.in_ok-tracing.ensures c.in_ok-take_steps.ensures) c.in_ok-finish.ensures.goes

pub returns : goal.returns
returns c = record {
  traced = IfOk-weaker c.into_listing.result _ _ (λ listing listed.
      traced c.in_ok-tracing.ensures c.in_ok-take_steps.ensures c.in_ok-finish.ensures.goes c.in_ok-finish.ensures.over listing listed) c.into_listing.ensures;
}
