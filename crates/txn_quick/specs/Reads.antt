-- Private: a first read, access by access. Here r is what is kept of the attempt.
use Rattle.std.specs.Prelude.{◌≡◌, ℕ, nat_eq, List, Option, None}
use Rattle.std.specs.Map.{lookup}
use Rattle.meta_word.specs.Policy.{looks}
use Rattle.meta_word.specs.declared.meta.Meta.{Meta}
use Rattle.op_read.specs.Read.{end_of_read, reading}
use Rattle.op_read.specs.declared.read.ReadOp.{ReadOp}
use Rattle.ref_table.specs.Seats.{SeatState}
use Rattle.stm_core.specs.Running.{HasRoomFor, IsReading, base, none_due, standing_at}
use Rattle.stm_core.specs.declared.running.Running.{Running}
use Rattle.stm_core.specs.declared.running.State.TheVariants.{Ready}
use Rattle.stm_model.specs.After.{after_word, answer_with, at}
use Rattle.stm_model.specs.Attempt.{Attempt, ReadMeta, ReadValue, Stage}
use Rattle.stm_model.specs.Moves.{asked_going}
use Rattle.stm_model.specs.declared.access.Ask.TheVariants.{Get}
use Rattle.stm_model.specs.World.{Terms}
use Rattle.stm_model.specs.declared.cause.Addr.{Addr}
use Rattle.txn_drive.specs.Stepping.{Accesses}

-- It waits to be asked, and the cell is neither written nor noted. Its note needs no memory.
pub record IsFirstRead (r : Running) (addr : Addr) : Type 0 where
  pub told : Option ℕ
  pub ready : r.state ≡ Ready told
  pub unwritten : lookup (nat_eq addr.0) r.footprint.writes.writes ≡ None
  pub room : HasRoomFor r.footprint.reads addr.0

-- It waits to be asked, and answers the ask for this cell by this value at once.
pub record IsKnown (r : Running) (addr : Addr) (value : ℕ) : Type 0 where
  pub told : Option ℕ
  pub ready : r.state ≡ Ready told
  pub answers : (stage : Stage) → asked_going (standing_at r stage) (Get addr) ≡ answer_with (base r) value

-- the attempt that begins to read the cell
abbrev pub to_read : Running → Addr → Attempt
to_read r addr = at (base r) (ReadMeta addr.0 (looks r.settings.policy))

-- once it has found this meta word
abbrev pub meta_loaded : Running → Addr → (first : ℕ) → Attempt
meta_loaded r addr first = after_word (to_read r addr) first

-- once it has found that meta word, this value, and then this meta word
abbrev pub cell_loaded : Running → Addr → (first value second : ℕ) → Attempt
cell_loaded r addr first value second = after_word (after_word (meta_loaded r addr first) value) second

-- The meta word lets it go on to load the value.
pub record LoadsValue (r : Running) (addr : Addr) (first : ℕ) : Type 0 where
  pub left : ℕ
  pub meta : Meta
  pub is : meta_loaded r addr first ≡ at (base r) (ReadValue addr.0 left meta)

-- The read is the attempt's, and goes on. Nothing is due.
pub record IsUnderWay (r : Running) (op : ReadOp) : Type 0 where
  pub reads : IsReading r op
  pub going : end_of_read op ≡ None
  pub nothing_due : r.due ≡ none_due

-- The attempt has made the access of the read, which goes on by the word that it found.
pub record ReadsOn (lawful : List ℕ → Type 0) (may : List ℕ → List ℕ → Type 0) (terms : Terms) (r : Running) (before : SeatState) (op : ReadOp) (found : ℕ) (after : SeatState) (later : ReadOp) : Type 0 where
  pub accesses : Accesses lawful may terms before (reading op (base r)) after (reading later (base r))
  pub finds : reading later (base r) ≡ after_word (reading op (base r)) found
  pub reads : IsReading r later
  pub cell : later.addr ≡ op.addr
