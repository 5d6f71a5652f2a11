use Rattle.std.proofs.Common.{ℕ, List, subst}
use Rattle.ledger_model.specs.Traced.{Trace}
use Rattle.trace_laws.proofs.Tracked.{Tracked}
use Rattle.trace_laws.proofs.Opening.{onward_tracked}
use Rattle.trace_laws.proofs.Replaying.{replays}
use Rattle.trace_laws.proofs.Resting.{Rested}
use Rattle.trace_laws.proofs.a_traced_listing_replays_its_job.Goals as goal

pub returns : goal.returns
returns c job settings listing traced clock attempts is =
    let lawful : List ℕ → Type 0 = λ heap. Unit {0} in
    let may : List ℕ → List ℕ → Type 0 = λ heap next. Unit {0} in
    let tracked = subst (λ (s : Trace). Tracked lawful may job settings s) is.reached (onward_tracked job settings traced clock lawful may (λ heap. tt) (λ heap next. tt) attempts job.steps traced.fits.named is.count) in
    let rested : Rested lawful may job settings is.last listing = record { fits = traced; tracked = tracked; over = is.over; listed = is.listed } in
    replays rested
