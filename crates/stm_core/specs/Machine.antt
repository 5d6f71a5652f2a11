-- What an attempt as a machine is to its callers.
use Rattle.std.specs.Prelude.{◌≡◌, ◌≢◌, ℕ, ◌+◌, ◌*◌, ◌<◌, ◌≤◌, ◌^◌, ◌⊎◌, false, if◌then◌else◌, ◌||◌, is_some, IsFalse, IsSome, IsTrue, List, [], ◌∷◌, length, Option, Some, None}
use Rattle.meta_word.specs.Policy.{looks}
use Rattle.meta_word.specs.declared.meta.TheConstants.{MAX_VERSION}
use Rattle.meta_word.specs.declared.status.Phase.TheVariants.{Idle}
use Rattle.stm_core.specs.declared.next.Next.{Next}
use Rattle.stm_core.specs.declared.next.Next.TheVariants as coming
use Rattle.stm_core.specs.declared.next.Reply.TheVariants as reply
use Rattle.stm_model.specs.declared.access.Access.{Access}
use Rattle.stm_model.specs.declared.access.Access.TheVariants.{Exchange, Load}
use Rattle.stm_model.specs.declared.access.Ask.{Ask}
use Rattle.stm_model.specs.declared.access.Ask.TheVariants.{Abandon, Enter, Finish, Get, Hook, Later, Set, Undo}
use Rattle.stm_model.specs.declared.access.Word.TheVariants.{Clock}
use Rattle.stm_model.specs.declared.cause.Cause.{Cause}
use Rattle.stm_model.specs.declared.ending.Ending.{Ending}
use Rattle.stm_model.specs.declared.settings.Settings.{Settings}
use Rattle.stm_model.specs.Accesses.{Act, LoadClock, ExchangeClock, access_of, addr_of, next, next_at, packed}
use Rattle.stm_model.specs.Attempt.{Attempt, Due, Ended, Late, Ready, Ring, Run, Stage, Stopped, cause_at, holds, is_in_flight}
use Rattle.op_commit.specs.Back.{former_writes}
use Rattle.stm_model.specs.After.{note_of, run_all}
use Rattle.stm_model.specs.Handlers.{Handlers}
use Rattle.stm_model.specs.Heap.{writes_to}
use Rattle.stm_model.specs.Moves.{AwaitsAsk, OutOfMemory, MayRunOut, moved}

-- the attempt, how many accesses may follow before it replies, and how many first reads and first writes that aren't under way take no memory
pub record Machine : Type 0 where
  pub attempt : Attempt
  pub left : ℕ
  pub spare_reads : ℕ
  pub spare_writes : ℕ

-- ---- what comes next

-- an access, and the exchange of the clock by a name of its own
abbrev pub named : Access → Next
named (Exchange Clock old new) = coming.Decide old
named access = coming.Access access

-- the access that is made comes next
abbrev pub made : Option Access → Option Next
made None = None
made (Some access) = Some (named access)

-- it is over, with this ending
abbrev pub over : Option Ending → Option Next
over None = None
over (Some ending) = Some (coming.Reply (reply.Ended ending))

-- what an attempt does where it stands: it replies, or it makes an access
unfoldable pub standing : Attempt → Stage → Option Next
standing t (Ready None) = Some (coming.Reply reply.Ready)
standing t (Ready (Some value)) = Some (coming.Reply (reply.Value value))
standing t (Late token) = Some (coming.Before token)
standing t (Stopped cause) = Some (coming.Reply (reply.Stopped cause))
standing t Ended = over t.ending
standing t stage = made (packed (next_at t stage))

-- What is due comes first.
unfoldable pub after_due : List Due → Option Next → Option Next
after_due [] next = next
after_due (Run phase token ∷ dues) next = Some (coming.Run phase token)
after_due (Ring cell ∷ dues) next = Some (coming.Ring (addr_of cell))

-- what an attempt does next
abbrev pub next_of : Attempt → Option Next
next_of t = after_due t.due (standing t t.stage)

-- ---- its conditions

-- Rounds of a first write and the clock have room in their types.
pub record SettingsFit (settings : Settings) : Type 0 where
  pub looks : looks settings.policy + 1 < 2 ^ 16
  pub clock : settings.clock ≤ MAX_VERSION

-- What the clock shows is within the attempt's limit.
unfoldable pub ClockFits : Attempt → Option Act → ℕ → Type 0
ClockFits t (Some LoadClock) answer = answer ≤ t.settings.clock
ClockFits t (Some (ExchangeClock old)) answer = answer ≤ t.settings.clock
ClockFits t act answer = Unit {0}

-- It may be given this answer: it makes an access, and a clock that this finds is within the limit.
pub record MayTake (t : Attempt) (answer : ℕ) : Type 0 where
  pub going : IsSome (next t)
  pub clock : ClockFits t (next t) answer

-- ---- what it promises by what it does next

-- the clock is what it finds
abbrev pub FindsClock : Access → Type 0
FindsClock (Load Clock) = Unit {0}
FindsClock access = ⊥

-- This access comes next, and it isn't the exchange of the clock.
pub record Makes (t : Attempt) (access : Access) : Type 0 where
  pub act : Act
  pub next : next t ≡ Some act
  pub made : access_of act ≡ access
  pub undecided : (old new : ℕ) → access ≢ Exchange Clock old new
  pub takes : (answer : ℕ) → (FindsClock access → answer ≤ t.settings.clock) → MayTake t answer

-- The exchange of the clock from this value comes next, which is below the limit.
pub record Decides (t : Attempt) (old : ℕ) : Type 0 where
  pub next : next t ≡ Some (ExchangeClock old)
  pub below : old < t.settings.clock
  pub takes : (answer : ℕ) → answer ≤ t.settings.clock → MayTake t answer

-- This is due, before all else.
pub record IsDue (t : Attempt) (due : Due) : Type 0 where
  pub behind : List Due
  pub first : t.due ≡ due ∷ behind
  pub some : 0 < length t.due

-- It waits to be asked, and makes no access.
pub record Waits (t : Attempt) : Type 0 where
  pub awaits : AwaitsAsk t
  pub makes_none : next t ≡ None

-- So it is, and a before-commit body has its turn.
pub record IsLate (t : Attempt) (token : ℕ) : Type 0 where
  pub waits : Waits t
  pub stage : t.stage ≡ Late token
  pub turn : 0 < t.turn

-- So it is, and was refused with this cause.
pub record IsRefusedWith (t : Attempt) (cause : Cause) : Type 0 where
  pub waits : Waits t
  pub stage : t.stage ≡ Stopped cause

-- It is over: it owns no cell and has marked none, its status is stored as idle, and nothing is due.
pub record IsAtRest (t : Attempt) (ending : Ending) : Type 0 where
  pub stage : t.stage ≡ Ended
  pub ends : t.ending ≡ Some ending
  pub phase : t.phase ≡ Idle
  pub holds_none : (cell : ℕ) → holds t cell ≡ false
  pub nothing_due : t.due ≡ []
  pub makes_none : next t ≡ None

-- What it says that it does next allows the call that this is for.
abbrev pub Promises : Attempt → Next → Type 0
Promises t (coming.Access access) = Makes t access
Promises t (coming.Decide old) = Decides t old
Promises t (coming.Run phase token) = IsDue t (Run phase token)
Promises t (coming.Ring addr) = IsDue t (Ring addr.0)
Promises t (coming.Before token) = IsLate t token
Promises t (coming.Reply (reply.Stopped cause)) = IsRefusedWith t cause
Promises t (coming.Reply (reply.Ended ending)) = IsAtRest t ending
Promises t (coming.Reply told) = Waits t

-- ---- how it goes on after an ask

-- It waits to be asked, or makes an access, or something is due.
unfoldable pub IsOngoing : Attempt → Type 0
IsOngoing t = AwaitsAsk t ⊎ (IsSome (next t) ⊎ (0 < length t.due))

-- What may be due after an ask: handlers alone, and these only where a level is undone or the body ends.
unfoldable pub DueAfter : Ask → List Due → Type 0
DueAfter Undo dues = (hooks : Handlers) × (dues ≡ run_all hooks)
DueAfter Finish dues = (hooks : Handlers) × (dues ≡ run_all hooks)
DueAfter ask dues = dues ≡ []

-- Something is due, or a before-commit body has its turn and the attempt waits to be asked by it.
unfoldable pub IsToRun : Attempt → Type 0
IsToRun t = (0 < length t.due) ⊎ (AwaitsAsk t × (0 < t.turn))

-- ---- what doesn't change

-- It is the same attempt, of the same caller and under the same settings.
pub record IsSameAttempt (before after : Attempt) : Type 0 where
  pub own : after.own ≡ before.own
  pub serial : after.serial ≡ before.serial
  pub settings : after.settings ≡ before.settings

-- ---- what an ask makes of it

-- The ask is refused, out of memory, where it wants some.
pub record IsRefused (before : Attempt) (ask : Ask) (after : Attempt) : Type 0 where
  pub wants : MayRunOut before ask
  pub going : cause_at before.stage ≡ None
  pub stops : after ≡ moved before (OutOfMemory ask)

-- A cell is written, and none of these writes is its.
pub record IsFirstSince (writes former : List (ℕ × ℕ)) (cell : ℕ) : Type 0 where
  pub written : IsTrue (writes_to writes cell)
  pub unwritten : IsFalse (writes_to former cell)

-- The ask takes no memory where so many first reads and first writes are spare. A rewrite takes none where the cell was first written in the innermost level, or no level is open. A level inside another takes none.
abbrev pub TakesNoMemory : (reads writes : ℕ) → Attempt → Ask → Type 0
TakesNoMemory reads writes t (Get cell) = 0 < reads
TakesNoMemory reads writes t (Set cell value) = (IsFalse (writes_to t.now.writes cell.0) × (0 < writes)) ⊎ IsFirstSince t.now.writes (former_writes t.saved) cell.0
TakesNoMemory reads writes t Enter = 0 < length t.saved
TakesNoMemory reads writes t (Hook phase token) = ⊥
TakesNoMemory reads writes t (Later token) = ⊥
TakesNoMemory reads writes t ask = Unit {0}

-- ---- an attempt in flight

-- the attempt, unless it has ended
abbrev pub in_flight : Attempt → Option Attempt
in_flight t = if is_in_flight t then Some t else None

-- ---- its room

-- So many first reads and so many first writes are spare.
pub record HasSpare (reads writes : ℕ) (m : Machine) : Type 0 where
  pub for_reads : reads ≤ m.spare_reads
  pub for_writes : writes ≤ m.spare_writes

-- How many first reads, and how many first writes, an ask uses up at most: those that it is one of.
unfoldable pub reads_asked : Attempt → Ask → ℕ
reads_asked t (Get cell) = if writes_to t.now.writes cell.0 || is_some (note_of t.notes cell.0) then 0 else 1
reads_asked t ask = 0

unfoldable pub writes_asked : Attempt → Ask → ℕ
writes_asked t (Set cell value) = if writes_to t.now.writes cell.0 then 0 else 1
writes_asked t ask = 0

-- ---- how many accesses may follow an ask

-- A read loads the meta word once more than the policy grants looks, and each time it may extend over all notes. A first write loads it as often. A commit marks, stores and releases each cell and validates the notes as often as it tries for the clock, and may be rolled back after that. A rollback releases each cell and stores the status, and a level that is undone releases at most each cell.
unfoldable pub accesses_asked : Attempt → Ask → ℕ
accesses_asked t (Get cell) = (looks t.settings.policy + 1) * (4 + length t.notes)
accesses_asked t (Set cell value) = (looks t.settings.policy + 1) * 4
accesses_asked t Finish = 3 * length t.now.writes + (t.settings.tries + 1) * (length t.notes + 2) + 2 + (length t.now.writes + 1)
accesses_asked t (Abandon cause) = length t.now.writes + 1
accesses_asked t Undo = length t.now.writes
accesses_asked t ask = 0
