use Rattle.std.proofs.Common.{◌≡◌, ℕ, List, max, length, arith}
use Rattle.stm_model.specs.World.{IsCaller}
use Rattle.opacity.proofs.Runs.{safe_opaque}
use Rattle.ledger_model.specs.Traced.{onward, opening_trace, terms_of_job, turns}
use Rattle.trace_laws.proofs.Opening.{onward_tracked}
use Rattle.trace_laws.proofs.every_attempt_of_a_trace_is_opaque.Goals as goal

pub returns : goal.returns
returns c job settings steps count p traced clock attempts named low high =
    let lawful : List ℕ → Type 0 = λ heap. Unit {0} in
    let may : List ℕ → List ℕ → Type 0 = λ heap next. Unit {0} in
    let s = onward job settings count (turns job settings steps (opening_trace job settings)) in
    let tracked = onward_tracked job settings traced clock lawful may (λ heap. tt) (λ heap next. tt) attempts steps named count in
    let callers : settings.callers ≡ max (length job.workers) 1 = traced.callers in
    let caller : IsCaller (terms_of_job job settings) p = (omega (arith, low), omega (arith, high, callers)) in
    λ begun kept. safe_opaque lawful may (terms_of_job job settings) s.world p tracked.safe caller begun kept
