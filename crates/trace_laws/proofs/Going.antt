-- Where a script goes on: what it has printed stays in front, and it goes on likewise wherever the attempt stands. Here g is how far it has come.
use Rattle.std.proofs.Common.{Bool, true, false, if◌then◌else◌, List}
use Rattle.stm_model.specs.declared.cause.Cause.{Cause}
use Rattle.stm_model.specs.declared.note.Note.{Note}
use Rattle.stm_model.specs.After.{at, stopped}
use Rattle.stm_model.specs.Attempt.{Attempt, Stage}
use Rattle.stm_model.specs.CellsState.{Book}
use Rattle.ledger_model.specs.declared.job.Contents.{Contents}
use Rattle.ledger_model.specs.declared.script.Statement.{Statement}
use Rattle.ledger_model.specs.Talk.{Talk}
use Rattle.ledger_model.specs.Traced.{Progress}
use Rattle.ledger_model.proofs.Hearing.{trail_stays}
use Rattle.trace_laws.proofs.Told.{BeginsSo, Comes, GoesOnHere, IsRefusal, IsTold, ToldAt, book_then, hearing_on}

module _ (base : Contents) (block : List Statement) (g : Progress) where
  -- Whatever it comes to, it prints first what was printed so far.
  pub begins_so : (notes : List Note) (this : Talk) (now : Book) (saved : List Book) → Comes base block notes this now saved g → BeginsSo base block notes g
  begins_so notes this now saved comes = λ heap size agrees. rw (comes heap size agrees) (trail_stays this (hearing_on base heap now saved g))

  -- It goes on likewise at another stage.
  pub goes_at : (t : Attempt) (this : Talk) (stage : Stage) → GoesOnHere base block t this g → GoesOnHere base block (at t stage) this g
  goes_at t this stage goes = record { comes = goes.comes; allowed = goes.allowed; levels = goes.levels }

  -- It is refused something with a cause that it can be refused with.
  pub stops : (t : Attempt) (this : Talk) (cause : Cause) → GoesOnHere base block t this g → IsRefusal cause → IsTold base block (stopped t cause) g
  unfolding ToldAt
  stops t this cause goes text = (begins_so t.notes this (book_then t) t.saved goes.comes, text)

  pub told_either : (b : Bool) (one other : Attempt) → IsTold base block one g → IsTold base block other g → IsTold base block (if b then one else other) g
  told_either true one other first second = first
  told_either false one other first second = second
