use Rattle.std.proofs.Common.{◌∙◌, sym}
use Rattle.host_trace.proofs.Standing.{parked_not}
use Rattle.host_trace.proofs.trace.Tracing.is_parked.Goals as goal

pub returns-in_default-3 : goal.returns-in_default-3
returns-in_default-3 c = λ s traces.
    parked_not traces c.requires.worker (c.requires.rests s traces) c.next.result c.next.ensures.next (sym c.ending_in.ensures ∙ c.in_default.is)
