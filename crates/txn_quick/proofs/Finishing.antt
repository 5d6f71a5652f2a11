-- The ask to finish, where the body is plain. Here r is what is kept of the attempt.
use Rattle.std.proofs.Common.{◌≡◌, List, [], ◌∷◌, ◌++◌, drop, length, Some, sym, ap, ◌∙◌, refl, inl}
use Rattle.stm_core.proofs.Asking.{concludes, going_taken, waits_at}
use Rattle.stm_core.proofs.Shown.{nothing_due_so}
use Rattle.stm_core.specs.Running.{IsSound, base, shown, standing_at}
use Rattle.stm_core.specs.declared.running.Running.{Running}
use Rattle.stm_model.specs.After.{at, run_all}
use Rattle.stm_model.specs.Attempt.{Close, Due, Stage, Write}
use Rattle.stm_model.specs.Handlers.{Handlers, committing, preparing}
use Rattle.stm_model.specs.Moves.{AwaitsAsk, Takes, asked_going, conclude, moved, turn_to}
use Rattle.stm_model.specs.declared.access.Ask.TheVariants.{Finish}
use Rattle.stm_model.specs.declared.ending.Ending.TheVariants.{Read}
use Rattle.txn_quick.specs.Committing.{IsPlain, IsQuiet, to_close, to_commit}
use Rattle.txn_quick.proofs.Steps.{none_due_so}

-- A plain attempt is quiet.
pub plain_quiet : (r : Running) → IsPlain r → IsSound r → AwaitsAsk (shown r) → IsQuiet r
plain_quiet r plain sound waits = record { free = record { fits = sound.fits; nothing_due = nothing_due_so r sound waits.nothing_due }; no_hooks = plain.no_hooks }

finished : (r : Running) (stage : Stage) → drop r.turn r.handlers.laters ≡ [] → asked_going (standing_at r stage) Finish ≡ conclude (standing_at r stage) r.footprint.writes.writes
unfolding asked_going
finished r stage last = ap (turn_to (standing_at r stage)) last

none_written : (writes : List Write) → length writes ≡ 0 → writes ≡ []
none_written [] none = refl
none_written (write ∷ writes) none = absurd (cc none)

no_runs : (hooks : Handlers) → hooks ≡ [] → run_all (preparing hooks ++ committing hooks) ≡ []
no_runs hooks none = rw none refl

-- Where nothing is written, it ends as a reader.
pub reader_asked : (r : Running) → IsPlain r → IsQuiet r → length r.footprint.writes.writes ≡ 0 → to_close r ≡ moved (shown r) (Takes Finish)
reader_asked r plain quiet none =
    let waits = waits_at r (inl (plain.told, plain.ready)) in
    let t = standing_at r waits.stage in
    let due : run_all (preparing r.handlers.hooks ++ committing r.handlers.hooks) ≡ (base r).due = no_runs r.handlers.hooks plain.no_hooks ∙ sym (none_due_so r quiet.free.nothing_due) in
    going_taken r waits Finish (to_close r)
    (sym (finished r waits.stage plain.last ∙ (ap (conclude t) (none_written r.footprint.writes.writes none)
    ∙ ap (λ (due : List Due). at (record (base r) { ending = Some (Read r.prefix); due = due }) Close) due)))

-- Else it commits.
pub writer_asked : (r : Running) → IsPlain r → (length r.footprint.writes.writes ≡ 0 → ⊥) → to_commit r ≡ moved (shown r) (Takes Finish)
writer_asked r plain some =
    let waits = waits_at r (inl (plain.told, plain.ready)) in
    going_taken r waits Finish (to_commit r)
    (sym (finished r waits.stage plain.last ∙ concludes (standing_at r waits.stage) r.footprint.writes.writes some))
