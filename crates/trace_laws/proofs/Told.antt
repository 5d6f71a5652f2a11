-- Private: what holds of an attempt and of how far its script has come. Here base is what a job opens with, block the script's, t the attempt and g how far the script has come.
use Rattle.std.specs.Prelude.{◌≡◌, ℕ, ◌≤◌, Bool, true, false, IsTrue, List, [], ◌∷◌, ◌++◌, length, take, unwrap_or, Option, Some, None}
use Rattle.stm_model.specs.Attempt.{Attempt, Stage, Write, Announce, Begin, Ready, Late, Stopped, ReadMeta, ExtendClock, ExtendNote, ReadValue, Validate, AcquireMeta, Acquire, OwnerStatus, OwnerMeta, DoomOwner, ReleaseLevel, Prepare, Mark, CommitClock, CommitNote, Decide}
use Rattle.stm_model.specs.CellsState.{Book, outer, restored}
use Rattle.stm_model.specs.HandlerRuns.{Ends, due_runs}
use Rattle.stm_model.specs.Handlers.{Handlers}
use Rattle.stm_model.specs.Heap.{Agrees, over}
use Rattle.stm_model.specs.Accesses.{addr_of}
use Rattle.stm_model.specs.Telling.{Extends}
use Rattle.stm_model.specs.declared.access.Ask.TheVariants.{Get, Set}
use Rattle.stm_model.specs.declared.cause.Cause.{Cause}
use Rattle.stm_model.specs.declared.cause.Cause.TheVariants.{ClockEnd, Retry, User}
use Rattle.stm_model.specs.declared.ending.Ending.{Ending}
use Rattle.stm_model.specs.declared.ending.Ending.TheVariants.{Committed, Read, Rolled}
use Rattle.stm_model.specs.declared.note.Note.{Note}
use Rattle.ledger_model.specs.declared.job.Contents.{Contents}
use Rattle.ledger_model.specs.declared.script.Statement.{Statement}
use Rattle.ledger_model.specs.Allowed.{Footing, IsAllowed}
use Rattle.ledger_model.specs.Heard.{Heard, Hearing, Undoable, hear, hearing_start}
use Rattle.ledger_model.specs.Report.{has_text}
use Rattle.ledger_model.specs.Run.{End, Kept, Failed, Retried}
use Rattle.ledger_model.specs.Talk.{Talk, Over, Asks, talk}
use Rattle.ledger_model.specs.Traced.{Progress}

-- ---- an attempt, as plain contents hear its script

-- what the job opens with, but for the references
abbrev pub with_refs : Contents → List ℕ → Contents
with_refs base refs = record base { refs = refs }

abbrev pub is_any : List Write → Bool
is_any [] = false
is_any (write ∷ writes) = true

-- what is undone with a level, by its book and its prints, over a heap
abbrev pub undoable_on : Contents → List ℕ → Book → List ℕ → Undoable
undoable_on base heap book prints = record { contents = with_refs base (over heap book.writes); wrote = is_any book.writes; prints = prints; hooks = book.hooks }

-- the same of each open level, with as many of the prints as there were
abbrev pub saved_on : Contents → List ℕ → List ℕ → List Book → List ℕ → List Undoable
saved_on base heap prints (book ∷ books) (count ∷ counts) = undoable_on base heap book (take count prints) ∷ saved_on base heap prints books counts
saved_on base heap prints books counts = []

-- where the script has come to, over a heap
abbrev pub hearing_on : Contents → List ℕ → Book → List Book → Progress → Hearing
hearing_on base heap now saved g = record { now = undoable_on base heap now g.prints; saved = saved_on base heap g.prints saved g.saved; trail = g.trail; runs = now.runs }

-- the script, heard from its start
abbrev pub heard_whole : Contents → List Statement → List ℕ → Heard
heard_whole base block heap = hear (talk block) (hearing_start (with_refs base heap))

-- On each heap that has what was noted, the whole script comes to what this talk comes to from here.
abbrev pub Comes : Contents → List Statement → List Note → Talk → Book → List Book → Progress → Type 0
Comes base block notes this now saved g =
    (heap : List ℕ) → length heap ≡ length base.refs → Agrees notes heap → heard_whole base block heap ≡ hear this (hearing_on base heap now saved g)

-- On each such heap the whole script prints first what was printed so far.
abbrev pub BeginsSo : Contents → List Statement → List Note → Progress → Type 0
BeginsSo base block notes g =
    (heap : List ℕ) → length heap ≡ length base.refs → Agrees notes heap → Extends g.trail (heard_whole base block heap).after.trail

-- ---- levels and bodies

-- As many prints as each open level began with are still there, and an outer level has no more than one inside it.
abbrev pub CountsNest : ℕ → List ℕ → Type 0
CountsNest most [] = Unit {0}
CountsNest most (count ∷ counts) = (count ≤ most) × CountsNest count counts

-- the before-commit bodies that are registered, now and where each open level began
abbrev pub laters_of : List Book → List ℕ
laters_of [] = []
laters_of (book ∷ books) = length book.laters ∷ laters_of books

abbrev pub footing_of : Book → List Book → ℕ → Footing
footing_of now saved turn = record { registered = length now.laters; saved = laters_of saved; turn = turn }

-- the levels of the attempt and of its script
pub record LevelsMatch (saved : List Book) (g : Progress) : Type 0 where
  pub as_many : length g.saved ≡ length saved
  pub nest : CountsNest (length g.prints) g.saved

-- ---- where it goes on

-- the book once all that is due is done
abbrev pub book_then : Attempt → Book
book_then t = record t.now { runs = t.now.runs ++ due_runs t.due }

-- The script goes on with this talk, with this book and these levels.
pub record GoesOn (base : Contents) (block : List Statement) (t : Attempt) (this : Talk) (now : Book) (saved : List Book) (g : Progress) : Type 0 where
  pub comes : Comes base block t.notes this now saved g
  pub allowed : IsAllowed (length base.refs) (footing_of now saved t.turn) this
  pub levels : LevelsMatch saved g

-- it goes on from where the attempt stands
abbrev pub GoesOnHere : Contents → List Statement → Attempt → Talk → Progress → Type 0
GoesOnHere base block t this g = GoesOn base block t this (book_then t) t.saved g

-- ---- where it ends

-- It ends so, and these are the handlers that had run at the begin of its end, and that run since.
pub record Closes (base : Contents) (block : List Statement) (t : Attempt) (prepared : Bool) (end : End) (g : Progress) : Type 0 where
  pub former : Handlers
  pub ends : Ends former t.now.hooks prepared t
  pub comes : Comes base block t.notes (Over end) (record t.now { runs = former }) t.saved g

-- it is kept, prepared or not
abbrev pub ClosesKept : Contents → List Statement → Attempt → Progress → Type 0
ClosesKept base block t g = (prepared : Bool) × Closes base block t prepared Kept g

-- It was rolled back with this cause: of its own, at the clock's limit, or for another caller's sake.
unfoldable pub RollsBackSo : Contents → List Statement → Attempt → Progress → Cause → Type 0
RollsBackSo base block t g (User code) = Closes base block t false (Failed code) g
RollsBackSo base block t g Retry = Closes base block t false Retried g
RollsBackSo base block t g (ClockEnd clock) = Closes base block t true Kept g × IsTrue (is_any t.now.writes) × (t.prefix ≡ clock)
RollsBackSo base block t g cause = BeginsSo base block t.notes g × IsTrue (has_text cause)

unfoldable pub ClosesSo : Contents → List Statement → Attempt → Progress → Option Ending → Type 0
ClosesSo base block t g None = ⊥
ClosesSo base block t g (Some (Committed stamp)) = ClosesKept base block t g × IsTrue (is_any t.now.writes)
ClosesSo base block t g (Some (Read prefix)) = ClosesKept base block t g × (t.now.writes ≡ [])
ClosesSo base block t g (Some (Rolled cause prefix)) = RollsBackSo base block t g cause

-- ---- at each stage

-- An attempt can be refused with this cause: a rolled line can name it, and it is none of a script's own.
abbrev pub IsRefusal : Cause → Type 0
IsRefusal Retry = ⊥
IsRefusal cause = IsTrue (has_text cause)

-- what holds of the attempt and of how far its script has come, where the attempt stands
unfoldable pub ToldAt : Contents → List Statement → Attempt → Progress → Stage → Type 0
ToldAt base block t g Announce = GoesOnHere base block t (g.rest 0) g × ((answer : ℕ) → g.rest answer ≡ g.rest 0)
ToldAt base block t g Begin = GoesOnHere base block t (g.rest 0) g
ToldAt base block t g (Ready told) = GoesOnHere base block t (g.rest (unwrap_or told 0)) g
ToldAt base block t g (Late token) = GoesOnHere base block t (g.rest 0) g
ToldAt base block t g (Stopped cause) = BeginsSo base block t.notes g × IsRefusal cause
ToldAt base block t g (ReadMeta cell left) = GoesOnHere base block t (Asks (Get (addr_of cell)) g.rest) g
ToldAt base block t g (ExtendClock cell left first) = GoesOnHere base block t (Asks (Get (addr_of cell)) g.rest) g
ToldAt base block t g (ExtendNote cell left first clock note behind) = GoesOnHere base block t (Asks (Get (addr_of cell)) g.rest) g
ToldAt base block t g (ReadValue cell left first) = GoesOnHere base block t (Asks (Get (addr_of cell)) g.rest) g
ToldAt base block t g (Validate cell left first value) = GoesOnHere base block t (Asks (Get (addr_of cell)) g.rest) g
ToldAt base block t g (AcquireMeta cell value left tried) = GoesOnHere base block t (Asks (Set (addr_of cell) value) g.rest) g
ToldAt base block t g (Acquire cell value left tried first expected again) = GoesOnHere base block t (Asks (Set (addr_of cell) value) g.rest) g
ToldAt base block t g (OwnerStatus cell value left first) = GoesOnHere base block t (Asks (Set (addr_of cell) value) g.rest) g
ToldAt base block t g (OwnerMeta cell value left first status) = GoesOnHere base block t (Asks (Set (addr_of cell) value) g.rest) g
ToldAt base block t g (DoomOwner cell value left first second status) = GoesOnHere base block t (Asks (Set (addr_of cell) value) g.rest) g
ToldAt base block t g (ReleaseLevel kept write behind) = GoesOn base block t (g.rest 0) (restored t.saved (book_then t)) (outer t.saved) g
ToldAt base block t g Prepare = ClosesKept base block t g
ToldAt base block t g (Mark write behind) = ClosesKept base block t g
ToldAt base block t g (CommitClock lost) = ClosesKept base block t g
ToldAt base block t g (CommitNote lost clock note behind) = ClosesKept base block t g
ToldAt base block t g (Decide lost clock) = ClosesKept base block t g
ToldAt base block t g stage = ClosesSo base block t g t.ending

-- the attempt is in flight, or over, with its script
abbrev pub IsTold : Contents → List Statement → Attempt → Progress → Type 0
IsTold base block t g = ToldAt base block t g t.stage
