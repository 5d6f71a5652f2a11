-- Private, but for `cells_in_stm`, `state_on` and `Went`: an attempt between two calls of its cells.
use Rattle.std.specs.Prelude.{◌≡◌, ◌≢◌, ℕ, ◌<◌, ◌≤◌, List, [], length, IfSome, None, Option, Result, Ok, Err, Some}
use Rattle.ref_table.specs.Seats.{SeatState, StmState, terms_in}
use Rattle.stm_core.specs.Running.{IsSound, shown}
use Rattle.stm_core.specs.declared.running.Running.{Running}
use Rattle.stm_model.specs.Attempt.{Attempt, Ended, Ready, Stage, Stopped, cause_at, cells_of}
use Rattle.stm_model.specs.CellsState.{CellsState, empty_book, hooked, kept, late_registered, undone, written}
use Rattle.stm_model.specs.Moves.{AwaitsAsk, MayAsk}
use Rattle.stm_model.specs.Owes.{Owes}
use Rattle.stm_model.specs.Refusing.{IsOfCells, RefusesLevel, RefusesRead, RefusesRegistration, RefusesWrite, deepest}
use Rattle.stm_model.specs.Telling.{Does, Enters, Got, Refused, Witness}
use Rattle.stm_model.specs.Heap.{AreWords}
use Rattle.std.specs.Map.{values_of}
use Rattle.stm_model.specs.World.{Terms, cells_in}
use Rattle.stm_model.specs.declared.access.Ask.{Ask}
use Rattle.stm_model.specs.declared.access.Ask.TheVariants.{Abandon, Enter, Finish, Get, Hook, Keep, Later, Set, Undo}
use Rattle.stm_model.specs.declared.cause.Cause.{Cause}
use Rattle.txn_drive.specs.Going.{Continues}
use Rattle.txn_drive.specs.Moment.{Moment}
use Rattle.txn_drive.specs.Standing.{IsOn, Rests}

-- the table, what its caller's seat knows, and the attempt
pub record FlightState (S : Type 0) : Type 0 where
  pub stm : StmState S
  pub seat : SeatState
  pub attempt : Attempt

-- how many cells the table has
abbrev pub cells_in_stm : {S : Type 0} → StmState S → ℕ
cells_in_stm stm = cells_in (terms_in stm)

-- what a body sees of an attempt on this table
abbrev pub state_on : {S : Type 0} → StmState S → Attempt → CellsState
state_on stm t = cells_of (cells_in_stm stm) t

-- It is on this table and of this seat.
pub record IsHere {S : Type 0} (stm : StmState S) (seat : SeatState) (flight : FlightState S) : Type 0 where
  pub table : flight.stm ≡ stm
  pub knows : flight.seat ≡ seat

-- It stands to its seat, waits to be asked or is over, was refused nothing but what cells refuse with, and unless it is over, no more levels are open than may be.
pub record Stands (lawful : List ℕ → Type 0) (may : List ℕ → List ℕ → Type 0) (terms : Terms) (seat : SeatState) (t : Attempt) : Type 0 where
  pub on : IsOn lawful may terms seat t
  pub rests : Rests t
  pub refused : IfSome (cause_at t.stage) IsOfCells
  pub deep : t.stage ≢ Ended → length t.saved ≤ deepest

-- What a body may rely on there.
pub record Knows (lawful : List ℕ → Type 0) (size : ℕ) (t : Attempt) : Type 0 where
  pub witness : Witness lawful size t.notes
  pub words : AreWords (values_of t.now.writes)
  pub answered : IfSome (cause_at t.stage) IsOfCells
  pub deep : length t.saved ≤ deepest

-- Its body has still to run: it waits to be asked, and nothing is read, written or registered.
pub record IsFresh (t : Attempt) : Type 0 where
  pub stage : t.stage ≡ Ready None
  pub notes : t.notes ≡ []
  pub now : t.now ≡ empty_book
  pub turn : t.turn ≡ 0

-- So it stands on this table, as it is kept.
pub record IsFlying {S : Type 0} (lawful : List ℕ → Type 0) (may : List ℕ → List ℕ → Type 0) (stm : StmState S) (seat : SeatState) (running : Running) : Type 0 where
  pub own : seat.table ≡ stm.table
  pub sound : IsSound running
  pub stands : Stands lawful may (terms_in stm) seat (shown running)

-- It may be asked for this: it waits to be asked, and where the ask ends its body, it meets what is owed.
pub record MayBeAsked (lawful : List ℕ → Type 0) (may : List ℕ → List ℕ → Type 0) (terms : Terms) (t : Attempt) (ask : Ask) : Type 0 where
  pub waits : AwaitsAsk t
  pub able : MayAsk (cells_in terms) t ask
  pub owes : ask ≡ Finish → cause_at t.stage ≡ None → Owes lawful may (cells_in terms) t.notes t.now.writes

-- The before-commit body that has its turn may be over: the attempt waits to be asked, and meets what is owed.
pub record MayEndLate (lawful : List ℕ → Type 0) (may : List ℕ → List ℕ → Type 0) (terms : Terms) (t : Attempt) : Type 0 where
  pub waits : AwaitsAsk t
  pub late : 0 < t.turn
  pub owes : cause_at t.stage ≡ None → Owes lawful may (cells_in terms) t.notes t.now.writes

-- The same attempt, after calls of its cells: it has gone on, and no before-commit body had its turn meanwhile.
pub record Went (before after : Moment) : Type 0 where
  pub continues : Continues before after
  pub turn : after.attempt.turn ≡ before.attempt.turn

-- ---- what an ask told

-- what the last ask was answered by
unfoldable pub told_at : Stage → Result (Option ℕ) Cause
told_at (Ready told) = Ok told
told_at (Stopped cause) = Err cause
told_at stage = Ok None

-- The ask is one of a body that goes on.
unfoldable pub IsOfBodies : Ask → Type 0
IsOfBodies Finish = ⊥
IsOfBodies (Abandon cause) = ⊥
IsOfBodies ask = Unit {0}

-- What an ask of a body makes of what the body sees, by what it was answered by.
unfoldable pub Tells : (lawful : List ℕ → Type 0) → Ask → Result (Option ℕ) Cause → CellsState → CellsState → Type 0
Tells lawful (Get addr) (Ok (Some value)) before after = Got lawful addr.0 value before after
Tells lawful (Get addr) (Ok None) before after = ⊥
Tells lawful (Get addr) (Err cause) before after = Refused (RefusesRead before addr.0) cause before after
Tells lawful (Set addr value) (Ok told) before after = Does (written addr.0 value) before after
Tells lawful (Set addr value) (Err cause) before after = Refused (RefusesWrite before addr.0) cause before after
Tells lawful Enter (Ok told) before after = Enters before after
Tells lawful Enter (Err cause) before after = Refused (RefusesLevel (length before.saved)) cause before after
Tells lawful Keep told before after = after ≡ kept before
Tells lawful Undo told before after = after ≡ undone before
Tells lawful (Hook phase token) (Ok told) before after = Does (hooked phase token) before after
Tells lawful (Hook phase token) (Err cause) before after = Refused RefusesRegistration cause before after
Tells lawful (Later token) (Ok told) before after = Does (late_registered token) before after
Tells lawful (Later token) (Err cause) before after = Refused RefusesRegistration cause before after
Tells lawful ask told before after = Unit {0}
