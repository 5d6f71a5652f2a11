-- Private: a first write, access by access. Here r is what is kept of the attempt.
use Rattle.std.specs.Prelude.{◌≡◌, ℕ, ◌<◌, false, Bool, IsFalse, List, Option, Some, None}
use Rattle.meta_word.specs.Policy.{looks}
use Rattle.meta_word.specs.declared.meta.Meta.{Meta}
use Rattle.op_commit.specs.Acquire.{acquiring, end_of_acquire}
use Rattle.op_commit.specs.declared.acquire.AcquireOp.{AcquireOp}
use Rattle.ref_table.specs.Seats.{SeatState}
use Rattle.stm_core.specs.Running.{IsAcquiring, base, none_due}
use Rattle.stm_core.specs.declared.running.Running.{Running}
use Rattle.stm_core.specs.declared.running.State.TheVariants.{Ready}
use Rattle.stm_model.specs.Accesses.{next_access}
use Rattle.stm_model.specs.After.{after_word, at}
use Rattle.stm_model.specs.Attempt.{Acquire, AcquireMeta, Attempt}
use Rattle.stm_model.specs.Heap.{writes_to}
use Rattle.stm_model.specs.World.{Terms}
use Rattle.stm_model.specs.declared.access.Access.{Access}
use Rattle.stm_model.specs.declared.cause.Addr.{Addr}
use Rattle.txn_drive.specs.Stepping.{Accesses}

-- The cell isn't written yet, and its write needs no memory.
pub record HasRoomToWrite (r : Running) (addr : Addr) : Type 0 where
  pub unwritten : IsFalse (writes_to r.footprint.writes.writes addr.0)
  pub room : 0 < r.footprint.writes.spare

-- So it is, and the attempt waits to be asked.
pub record IsFirstWrite (r : Running) (addr : Addr) : Type 0 where
  pub told : Option ℕ
  pub ready : r.state ≡ Ready told
  pub room : HasRoomToWrite r addr

-- the attempt that begins to write this value to the cell
abbrev pub to_write : Running → Addr → (value : ℕ) → Attempt
to_write r addr value = at (base r) (AcquireMeta addr.0 value (looks r.settings.policy) false)

-- once it has loaded this meta word
abbrev pub owner_loaded : Running → Addr → (value first : ℕ) → Attempt
owner_loaded r addr value first = after_word (to_write r addr value) first

-- once it has loaded that meta word, and its exchange has found this one
abbrev pub owner_exchanged : Running → Addr → (value first found : ℕ) → Attempt
owner_exchanged r addr value first found = after_word (owner_loaded r addr value first) found

-- The meta word that it has loaded lets it go on to exchange one.
pub record ToExchange (r : Running) (addr : Addr) (value first : ℕ) : Type 0 where
  pub left : ℕ
  pub tried : Bool
  pub meta : Meta
  pub expected : Meta
  pub again : Bool
  pub is : owner_loaded r addr value first ≡ at (base r) (Acquire addr.0 value left tried meta expected again)

-- The first write is the attempt's, and goes on. Nothing is due.
pub record IsWriting (r : Running) (op : AcquireOp) : Type 0 where
  pub acquires : IsAcquiring r op
  pub going : end_of_acquire op ≡ None
  pub nothing_due : r.due ≡ none_due

-- The attempt has made the access of the first write of this value, which goes on by the word that it found.
pub record WritesOn (lawful : List ℕ → Type 0) (may : List ℕ → List ℕ → Type 0) (terms : Terms) (r : Running) (value : ℕ) (before : SeatState) (op : AcquireOp) (found : ℕ) (after : SeatState) (later : AcquireOp) : Type 0 where
  pub access : Access
  pub comes : next_access (acquiring op value (base r)) ≡ Some access
  pub accesses : Accesses lawful may terms before (acquiring op value (base r)) after (acquiring later value (base r))
  pub finds : acquiring later value (base r) ≡ after_word (acquiring op value (base r)) found
  pub acquires : IsAcquiring r later
  pub cell : later.addr ≡ op.addr
