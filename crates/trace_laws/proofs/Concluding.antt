-- An attempt begins to end.
use Rattle.std.proofs.Common.{◌≡◌, false, List, [], ◌∷◌, Some}
use Rattle.stm_model.specs.declared.cause.Cause.{Cause}
use Rattle.stm_model.specs.declared.cause.Cause.TheVariants.{ClockEnd, Retry, User}
use Rattle.stm_model.specs.declared.ending.Ending.TheVariants.{Rolled}
use Rattle.stm_model.specs.After.{roll_on}
use Rattle.stm_model.specs.Attempt.{Attempt, Write}
use Rattle.stm_model.specs.HandlerRuns.{Ends}
use Rattle.stm_model.specs.Moves.{conclude}
use Rattle.ledger_model.specs.declared.job.Contents.{Contents}
use Rattle.ledger_model.specs.declared.script.Statement.{Statement}
use Rattle.ledger_model.specs.Run.{End, Kept}
use Rattle.ledger_model.specs.Talk.{Over}
use Rattle.ledger_model.specs.Traced.{Progress}
use Rattle.trace_laws.proofs.Told.{BeginsSo, Closes, ClosesSo, Comes, IsRefusal, IsTold, RollsBackSo, ToldAt}
use Rattle.trace_laws.proofs.Closings.{begins_alike, roll_alike}

module _ (base : Contents) (block : List Statement) (t : Attempt) (g : Progress) where
  -- ---- the script took place

  pub concluded : (writes : List Write) → t.now.writes ≡ writes → Ends t.now.runs t.now.hooks false (conclude t writes) → Comes base block t.notes (Over Kept) t.now t.saved g → IsTold base block (conclude t writes) g
  unfolding ToldAt ClosesSo
  concluded [] is ends comes = ((false, record { former = t.now.runs; ends = ends; comes = comes }), is)
  concluded (write ∷ writes) is ends comes = (false, record { former = t.now.runs; ends = ends; comes = comes })

  -- ---- it is rolled back

  abbrev rolling : Cause → List Write → Attempt
  rolling cause writes = roll_on (record t { ending = Some (Rolled cause t.prefix) }) writes

  pub closes : (cause : Cause) (end : End) (writes : List Write) → Ends t.now.runs t.now.hooks false (rolling cause writes) → Comes base block t.notes (Over end) t.now t.saved g
      → Closes base block (rolling cause writes) false end g
  closes cause end [] ends comes = record { former = t.now.runs; ends = ends; comes = comes }
  closes cause end (write ∷ behind) ends comes = record { former = t.now.runs; ends = ends; comes = comes }

  -- for another caller's sake
  pub refused : (cause : Cause) (writes : List Write) → IsRefusal cause → BeginsSo base block t.notes g → RollsBackSo base block (rolling cause writes) g cause
  unfolding RollsBackSo
  refused (User code) writes refusal begins = cc refusal
  refused (ClockEnd clock) writes refusal begins = cc refusal
  refused Retry writes refusal begins = absurd refusal
  refused cause writes refusal begins = (begins_alike base block g t (rolling cause writes) (roll_alike (record t { ending = Some (Rolled cause t.prefix) }) writes).0 begins, refusal)
