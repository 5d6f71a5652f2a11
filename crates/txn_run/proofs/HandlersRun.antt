-- Which handlers an attempt has run at its end, and what it has kept of what it had when its body was over.
use Rattle.std.proofs.Common.{◌≡◌, false, List, [], ◌++◌, Option, refl, sym, ap, subst, ◌∙◌}
use Rattle.meta_word.specs.declared.status.Phase.{Phase}
use Rattle.meta_word.specs.declared.status.Phase.TheVariants.{Active}
use Rattle.stm_model.specs.After.{rolled}
use Rattle.stm_model.specs.Attempt.{Attempt, Ended, has_prepared}
use Rattle.stm_model.specs.HandlerRuns.{ended_runs, prepares_by}
use Rattle.stm_model.specs.Handlers.{failing}
use Rattle.stm_model.specs.Moves.{conclude}
use Rattle.stm_model.specs.declared.cause.Cause.{Cause}
use Rattle.stm_model.proofs.HandlerRunsLemmas.{concluded-whole, rolled-whole}
use Rattle.txn_drive.specs.Calls.{Calls, TellsMore}
use Rattle.txn_drive.specs.Paying.{IsLed}
use Rattle.txn_drive.specs.Standing.{IsOver}

-- Where nothing was counted before, all is told.
pub tells_all : {T : Type 0} (counted counted_then : List T) (told told_then : Option (List T)) → counted ≡ [] → Calls counted counted_then told told_then → TellsMore told told_then counted_then
tells_all {T} counted counted_then told told_then none calls =
    subst (λ (more : List T). TellsMore told told_then more) (sym (calls.counts ∙ ap (λ (list : List T). list ++ calls.calls) none)) calls.tells

idle_of : (phase : Phase) → phase ≡ Active → has_prepared phase ≡ false
idle_of phase is = rw is refl

pub concluded_runs : (t u : Attempt) → t.due ≡ [] → t.phase ≡ Active → (leads : IsLed (conclude t t.now.writes) u) → IsOver u
    → u.now.runs ≡ t.now.runs ++ ended_runs (prepares_by (conclude t t.now.writes) leads.steps) u.ending t.now.hooks
concluded_runs t u none active leads over =
    subst (λ (a : Attempt). a.stage ≡ Ended → a.due ≡ [] → a.now.runs ≡ t.now.runs ++ ended_runs (prepares_by (conclude t t.now.writes) leads.steps) a.ending t.now.hooks)
    leads.reach (concluded-whole t leads.steps none (idle_of t.phase active)) over.stage over.nothing_due

pub rolled_runs : (t u : Attempt) (cause : Cause) → t.due ≡ [] → t.phase ≡ Active → IsLed (rolled t cause) u → IsOver u
    → u.now.runs ≡ t.now.runs ++ failing false t.now.hooks
rolled_runs t u cause none active leads over =
    subst (λ (a : Attempt). a.stage ≡ Ended → a.due ≡ [] → a.now.runs ≡ t.now.runs ++ failing false t.now.hooks)
    leads.reach (rolled-whole t cause leads.steps none (idle_of t.phase active)) over.stage over.nothing_due
