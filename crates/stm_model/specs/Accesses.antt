-- The access that an attempt makes next. Here t is an attempt.
use Rattle.std.specs.Prelude.{ℕ, suc, false, List, [], ◌∷◌, Option, Some, None}
use Rattle.meta_word.specs.Meta.{meta_word, meta_of}
use Rattle.meta_word.specs.Status.{status_word, status_of}
use Rattle.meta_word.specs.declared.meta.Meta.{Meta}
use Rattle.meta_word.specs.declared.meta.TheConstants.{CHANGING_BIT, PENDING_BIT, OWNER_AND_CHANGING_BITS}
use Rattle.meta_word.specs.declared.status.Phase.TheVariants.{Idle, Active, Preparing, Doomed}
use Rattle.meta_word.specs.declared.status.TxnStatus.{TxnStatus}
use Rattle.stm_model.specs.declared.access.Access.{Access}
use Rattle.stm_model.specs.declared.access.Access.TheVariants.{Load, Store, Swap, Exchange, SetBits, ClearBits}
use Rattle.stm_model.specs.declared.access.Word.{Word}
use Rattle.stm_model.specs.declared.access.Word.TheVariants.{Clock, Status, Meta as MetaOf, Value}
use Rattle.stm_model.specs.declared.cause.Addr.{Addr}
use Rattle.stm_model.specs.Attempt.{Attempt, Due, Stage, Announce, Begin, ReadMeta, ExtendClock, ExtendNote, ReadValue, Validate, AcquireMeta, Acquire, OwnerStatus, OwnerMeta, DoomOwner, ReleaseLevel, Prepare, Mark, CommitClock, CommitNote, Decide, StoreValues, Release, RollBack, Close, stamp_of}

-- An access to a shared word, by the fields of the word.
pub data Act : Type 0 where
  LoadClock : Act
  ExchangeClock : (old : ℕ) → Act
  LoadStatus : (caller : ℕ) → Act
  StoreStatus : (caller : ℕ) → (new : TxnStatus) → Act
  ExchangeStatus : (caller : ℕ) → (old new : TxnStatus) → Act
  LoadMeta : (cell : ℕ) → Act
  ExchangeMeta : (cell : ℕ) → (old new : Meta) → Act
  SetChanging : (cell : ℕ) → Act
  SetPending : (cell : ℕ) → Act
  ClearOwner : (cell : ℕ) → Act
  SwapMeta : (cell : ℕ) → (new : Meta) → Act
  LoadValue : (cell : ℕ) → Act
  StoreValue : (cell value : ℕ) → Act

-- what an access finds in its word
pub data Answer : Type 0 where
  Number : (found : ℕ) → Answer
  OfStatus : (found : TxnStatus) → Answer
  OfMeta : (found : Meta) → Answer

-- ---- which access comes next

-- the status of an attempt that may be doomed
abbrev pub active : ℕ → TxnStatus
active serial = record { serial = serial; phase = Active }

-- the word with another owner
abbrev pub owned : ℕ → Meta → Meta
owned own meta = record meta { owner = own }

-- a cell of this version that nobody owns or waits for
abbrev pub released : ℕ → Meta
released version = record { changing = false; pending = false; owner = 0; version = version }

abbrev pub doomed : TxnStatus → TxnStatus
doomed status = record status { phase = Doomed }

-- The access that an attempt makes where it stands, if it makes one there.
unfoldable pub next_at : Attempt → Stage → Option Act
next_at t Announce = Some (StoreStatus t.own (active t.serial))
next_at t Begin = Some LoadClock
next_at t (ReadMeta cell left) = Some (LoadMeta cell)
next_at t (ExtendClock cell left first) = Some LoadClock
next_at t (ExtendNote cell left first clock note behind) = Some (LoadMeta note.addr.0)
next_at t (ReadValue cell left first) = Some (LoadValue cell)
next_at t (Validate cell left first value) = Some (LoadMeta cell)
next_at t (AcquireMeta cell value left tried) = Some (LoadMeta cell)
next_at t (Acquire cell value left tried first expected again) = Some (ExchangeMeta cell expected (owned t.own expected))
next_at t (OwnerStatus cell value left first) = Some (LoadStatus first.owner)
next_at t (OwnerMeta cell value left first status) = Some (LoadMeta cell)
next_at t (DoomOwner cell value left first second status) = Some (ExchangeStatus first.owner status (doomed status))
next_at t (ReleaseLevel kept write behind) = Some (ClearOwner write.0)
next_at t Prepare = Some (ExchangeStatus t.own (active t.serial) (record { serial = t.serial; phase = Preparing }))
next_at t (Mark write behind) = Some (SetChanging write.0)
next_at t (CommitClock lost) = Some LoadClock
next_at t (CommitNote lost clock note behind) = Some (LoadMeta note.addr.0)
next_at t (Decide lost clock) = Some (ExchangeClock clock)
next_at t (StoreValues write behind) = Some (StoreValue write.0 write.1)
next_at t (Release write behind) = Some (SwapMeta write.0 (released (stamp_of t)))
next_at t (RollBack write behind) = Some (ClearOwner write.0)
next_at t Close = Some (StoreStatus t.own (record { serial = t.serial; phase = Idle }))
next_at t _ = None

-- what is due comes first
abbrev pub unless_due : List Due → Option Act → Option Act
unless_due [] act = act
unless_due (due ∷ dues) act = None

-- The access that an attempt makes next, if there is one.
abbrev pub next : Attempt → Option Act
next t = unless_due t.due (next_at t t.stage)

-- ---- accesses as they are made

abbrev pub addr_of : ℕ → Addr
addr_of cell = record { 0 = cell }

abbrev pub meta_of_cell : ℕ → Word
meta_of_cell cell = MetaOf (addr_of cell)

abbrev pub value_of_cell : ℕ → Word
value_of_cell cell = Value (addr_of cell)

-- the access with its words packed
unfoldable pub access_of : Act → Access
access_of LoadClock = Load Clock
access_of (ExchangeClock old) = Exchange Clock old (suc old)
access_of (LoadStatus caller) = Load (Status caller)
access_of (StoreStatus caller new) = Store (Status caller) (status_word new)
access_of (ExchangeStatus caller old new) = Exchange (Status caller) (status_word old) (status_word new)
access_of (LoadMeta cell) = Load (meta_of_cell cell)
access_of (ExchangeMeta cell old new) = Exchange (meta_of_cell cell) (meta_word old) (meta_word new)
access_of (SetChanging cell) = SetBits (meta_of_cell cell) CHANGING_BIT
access_of (SetPending cell) = SetBits (meta_of_cell cell) PENDING_BIT
access_of (ClearOwner cell) = ClearBits (meta_of_cell cell) OWNER_AND_CHANGING_BITS
access_of (SwapMeta cell new) = Swap (meta_of_cell cell) (meta_word new)
access_of (LoadValue cell) = Load (value_of_cell cell)
access_of (StoreValue cell value) = Store (value_of_cell cell) value

abbrev pub packed : Option Act → Option Access
packed None = None
packed (Some act) = Some (access_of act)

-- the access that an attempt makes next, as it is made
abbrev pub next_access : Attempt → Option Access
next_access t = packed (next t)

-- the word that an access found, by its fields
unfoldable pub answer_of : Act → ℕ → Answer
answer_of LoadClock word = Number word
answer_of (ExchangeClock old) word = Number word
answer_of (LoadStatus caller) word = OfStatus (status_of word)
answer_of (StoreStatus caller new) word = OfStatus (status_of word)
answer_of (ExchangeStatus caller old new) word = OfStatus (status_of word)
answer_of (LoadValue cell) word = Number word
answer_of (StoreValue cell value) word = Number word
answer_of _ word = OfMeta (meta_of word)

-- the word that an access goes to
unfoldable pub word_of : Access → Word
word_of (Load word) = word
word_of (Store word new) = word
word_of (Swap word new) = word
word_of (Exchange word old new) = word
word_of (SetBits word mask) = word
word_of (ClearBits word mask) = word
