-- Private: what the parts of a commit say of the place where it goes on.
use Rattle.std.specs.Prelude.{◌≡◌, Option}
use Rattle.op_commit.specs.Buffered.{ring_for}
use Rattle.op_commit.specs.Commit.{IsCommitting, committing_at, due_at}
use Rattle.op_commit.specs.declared.commit.CommitOp.{CommitOp}
use Rattle.op_commit.specs.declared.commit.CommitPlace.{CommitPlace}
use Rattle.stm_model.specs.declared.cause.Addr.{Addr}
use Rattle.stm_model.specs.Attempt.{Attempt}

-- At this place it shows what is made of the attempt, and no handlers are due.
pub record ComesTo (op : CommitOp) (place : CommitPlace) (made : Attempt → Attempt) : Type 0 where
  pub shows : (t : Attempt) → IsCommitting op t → made t ≡ committing_at place op.writes t
  pub due : (t : Attempt) (rung : Option Addr) → due_at place rung t ≡ ring_for rung
