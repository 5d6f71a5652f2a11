use Rattle.std.proofs.Common.{◌∙◌}
use Rattle.host_trace.proofs.Standing.{flying_is}
use Rattle.host_trace.proofs.trace.Tracing.is_flying.Goals as goal

pub returns : goal.returns
returns c = λ s traces. c.is_some.ensures ∙ flying_is traces c.requires.worker c.index.result.now c.index.ensures
