-- Private: what an attempt that is over tells of its script's run. Here heap has what the attempt has noted, and o is the run over it.
use Rattle.std.specs.Prelude.{◌≡◌, ℕ, true, false, IsTrue, List, Option, Some, None}
use Rattle.stm_model.specs.Attempt.{Attempt}
use Rattle.stm_model.specs.Heap.{over}
use Rattle.stm_model.specs.Telling.{Extends}
use Rattle.stm_model.specs.declared.cause.Cause.{Cause}
use Rattle.stm_model.specs.declared.cause.Cause.TheVariants.{ClockEnd, Retry, User}
use Rattle.stm_model.specs.declared.ending.Ending.{Ending}
use Rattle.stm_model.specs.declared.ending.Ending.TheVariants.{Committed, Read, Rolled}
use Rattle.ledger_model.specs.declared.job.Contents.{Contents}
use Rattle.ledger_model.specs.Report.{has_text}
use Rattle.ledger_model.specs.Run.{Kept, Failed, Retried, Outcome}
use Rattle.ledger_model.specs.Settle.{Commits, Fails, OnlyReads, Spends, handler_runs}
use Rattle.ledger_model.specs.Traced.{Progress}
use Rattle.trace_laws.proofs.Told.{with_refs}

-- The run is kept and writes what the attempt has written. Prints and handlers are the same.
pub record TellsCommit (base : Contents) (heap : List ℕ) (t : Attempt) (g : Progress) (o : Outcome) : Type 0 where
  pub end : o.end ≡ Kept
  pub wrote : o.after.wrote ≡ true
  pub contents : o.after.contents ≡ with_refs base (over heap t.now.writes)
  pub prints : o.after.prints ≡ g.prints
  pub runs : t.now.runs ≡ handler_runs Commits o.after

-- The run is kept and writes nothing. Prints and handlers are the same.
pub record TellsRead (t : Attempt) (g : Progress) (o : Outcome) : Type 0 where
  pub end : o.end ≡ Kept
  pub wrote : o.after.wrote ≡ false
  pub prints : o.after.prints ≡ g.prints
  pub runs : t.now.runs ≡ handler_runs OnlyReads o.after

-- The run fails with this code, and the same handlers run.
pub record TellsFailure (t : Attempt) (o : Outcome) (code : ℕ) : Type 0 where
  pub end : o.end ≡ Failed code
  pub runs : t.now.runs ≡ handler_runs (Fails code) o.after

-- The run is kept and writes, but the clock was at its limit, and the handlers are those of such a script.
pub record TellsSpent (t : Attempt) (o : Outcome) (clock : ℕ) : Type 0 where
  pub end : o.end ≡ Kept
  pub wrote : o.after.wrote ≡ true
  pub runs : t.now.runs ≡ handler_runs Spends o.after
  pub prefix : t.prefix ≡ clock

-- The run retries, and ever printed the same.
pub record TellsRetry (g : Progress) (o : Outcome) : Type 0 where
  pub end : o.end ≡ Retried
  pub trail : o.after.trail ≡ g.trail

-- The run prints first what the attempt's script printed, and a rolled line can name the cause.
pub record TellsRefusal (g : Progress) (o : Outcome) (cause : Cause) : Type 0 where
  pub trail : Extends g.trail o.after.trail
  pub text : IsTrue (has_text cause)

-- what a cause of a rollback tells
unfoldable pub TellsRollback : Attempt → Progress → Outcome → Cause → Type 0
TellsRollback t g o (User code) = TellsFailure t o code
TellsRollback t g o (ClockEnd clock) = TellsSpent t o clock
TellsRollback t g o Retry = TellsRetry g o
TellsRollback t g o cause = TellsRefusal g o cause

-- what an attempt tells that ended so
unfoldable pub TellsRun : Contents → List ℕ → Attempt → Progress → Outcome → Option Ending → Type 0
TellsRun base heap t g o None = ⊥
TellsRun base heap t g o (Some (Committed stamp)) = TellsCommit base heap t g o
TellsRun base heap t g o (Some (Read prefix)) = TellsRead t g o
TellsRun base heap t g o (Some (Rolled cause prefix)) = TellsRollback t g o cause
