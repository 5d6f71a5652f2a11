-- Private: the end of a body, access by access. Here r is what is kept of the attempt.
use Rattle.std.specs.Prelude.{◌≡◌, ℕ, IsNone, List, [], drop, Option, None, Some}
use Rattle.op_commit.specs.Commit.{committing, due_by, end_of_commit}
use Rattle.op_commit.specs.declared.commit.CommitOp.{CommitOp}
use Rattle.ref_table.specs.Seats.{SeatState}
use Rattle.stm_core.specs.Running.{IsCommitting, IsFree, base}
use Rattle.stm_core.specs.declared.running.Running.{Running}
use Rattle.stm_core.specs.declared.running.State.TheVariants.{Ready}
use Rattle.stm_model.specs.After.{at}
use Rattle.stm_model.specs.Attempt.{Attempt, Close, Prepare}
use Rattle.stm_model.specs.Handlers.{Handlers}
use Rattle.stm_model.specs.World.{Terms, cells_in}
use Rattle.stm_model.specs.declared.ending.Ending.TheVariants.{Read}
use Rattle.txn_drive.specs.Going.{Goes}
use Rattle.txn_drive.specs.Moment.{moment}
use Rattle.txn_drive.specs.Paying.{Pays}
use Rattle.txn_drive.specs.Standing.{IsOn}

-- It waits to be asked. It has no handlers, and no before-commit body is left.
pub record IsPlain (r : Running) : Type 0 where
  pub told : Option ℕ
  pub ready : r.state ≡ Ready told
  pub no_hooks : r.handlers.hooks ≡ []
  pub last : drop r.turn r.handlers.laters ≡ []

-- Nothing is due, and no handler will be.
pub record IsQuiet (r : Running) : Type 0 where
  pub free : IsFree r
  pub no_hooks : r.handlers.hooks ≡ []

-- the attempt that ends as a reader, before its access
abbrev pub to_close : Running → Attempt
to_close r = at (record (base r) { ending = Some (Read r.prefix) }) Close

-- the attempt that begins to commit
abbrev pub to_commit : Running → Attempt
to_commit r = at (base r) Prepare

-- the attempt that stands so in its commit
abbrev pub commits_at : Running → CommitOp → Attempt
commits_at r op = committing op (record (base r) { due = due_by op (base r) })

-- The commit is the attempt's. Its caller's seat knows the attempt, which pays what it owes.
pub record IsInCommit (lawful : List ℕ → Type 0) (may : List ℕ → List ℕ → Type 0) (terms : Terms) (seat : SeatState) (r : Running) (op : CommitOp) : Type 0 where
  pub on : IsOn lawful may terms seat (commits_at r op)
  pub pays : Pays lawful may (cells_in terms) (commits_at r op)
  pub commits : IsCommitting r op

-- An access comes next, and no cell is to be rung for.
pub record IsUndisturbed (op : CommitOp) : Type 0 where
  pub going : IsNone (end_of_commit op)
  pub quiet : op.rung ≡ None

-- The attempt has gone on in its commit.
pub record CommitsOn (lawful : List ℕ → Type 0) (may : List ℕ → List ℕ → Type 0) (terms : Terms) (r : Running) (before : SeatState) (op : CommitOp) (after : SeatState) (later : CommitOp) : Type 0 where
  pub goes : (runs : Option Handlers) (rings : Option (List ℕ)) → Goes (moment before (commits_at r op) runs rings) (moment after (commits_at r later) runs rings)
  pub here : IsInCommit lawful may terms after r later
