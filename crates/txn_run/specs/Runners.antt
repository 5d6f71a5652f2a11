-- Callers that run closures: what their cells tell between two attempts and in one, and what a closure has to do.
use Rattle.std.specs.Prelude.{◌≡◌, ◌≢◌, ℕ, ◌<◌, List, [], IfSome, None, Option, Some, Result, Ok, Err, IfErr, IfOk, ◌⊎◌}
use Rattle.ref_table.specs.Seats.{SeatState, StmState, terms_in}
use Rattle.stm_model.specs.Attempt.{Attempt, Ended, cause_at, cells_of}
use Rattle.stm_model.specs.CellsState.{Book, CellsState, empty_book}
use Rattle.stm_model.specs.Owes.{IsPossible}
use Rattle.stm_model.specs.Refusing.{IsOfBody}
use Rattle.stm_model.specs.Telling.{Owing}
use Rattle.stm_model.specs.declared.cause.Cause.{Cause}
use Rattle.stm_model.specs.declared.cause.Cause.TheVariants.{Memory}
use Rattle.txn_drive.specs.Begun.{IsBegun}
use Rattle.txn_drive.specs.Going.{Continues}
use Rattle.txn_drive.specs.Moment.{Moment, moment}
use Rattle.txn_drive.specs.Standing.{IsOn, IsOver}
use Rattle.txn_run.specs.Turns.{EndsAs}
use Rattle.txn_run.specs.declared.callers.Outcome.{Outcome}
use Rattle.txn_run.specs.Callers.{MayBegin, attempt_in}
use Rattle.txn_run.specs.Flights.{FlightState, Went, cells_in_stm, state_on}

-- between two attempts: nothing is read or written, and each call is refused
abbrev pub resting : ℕ → CellsState
resting size = record { size = size; reads = []; now = empty_book; saved = []; cause = Some Memory }

-- what the cells tell: of the attempt that is under way, if one is
abbrev pub state_by : {S : Type 0} → StmState S → Option (FlightState S) → CellsState
state_by stm None = resting (cells_in_stm stm)
state_by stm (Some flight) = state_on stm flight.attempt

-- the attempt under way, on this table and of this seat
abbrev pub placed : {S : Type 0} → StmState S → SeatState → Option (FlightState S) → Option (FlightState S)
placed stm seat None = None
placed stm seat (Some flight) = Some (record flight { stm = stm; seat = seat })

-- An attempt under way isn't over.
abbrev pub IsGoing : {S : Type 0} → Option (FlightState S) → Type 0
IsGoing flight = IfSome flight (λ f. f.attempt.stage ≢ Ended)

-- From one moment to another of the same table: the attempt under way went on, and else nothing happened.
abbrev pub WentBy : {S : Type 0} → Option (FlightState S) → SeatState → Option (List ℕ) → Option (FlightState S) → SeatState → Option (List ℕ) → Type 0
WentBy None seat rings None seat_then rings_then = (seat_then ≡ seat) × (rings_then ≡ rings)
WentBy (Some flight) seat rings (Some flight_then) seat_then rings_then = Went (moment seat flight.attempt None rings) (moment seat_then flight_then.attempt None rings_then)
WentBy flight seat rings flight_then seat_then rings_then = ⊥

-- This attempt is under way, and began after the caller stood so: its seat lent its lists, the attempt began, and it has gone on since.
pub record BegunFrom {S : Type 0} (lawful : List ℕ → Type 0) (may : List ℕ → List ℕ → Type 0) (stm : StmState S) (before : SeatState) (rings : Option (List ℕ))
    (after : SeatState) (t : Attempt) (rings_then : Option (List ℕ)) : Type 0 where
  pub lent : SeatState
  pub same : lent ≡ record before { lists = lent.lists }
  pub able : MayBegin lawful may stm lent
  pub more : (attempt_in before).serial < stm.settings.attempts
  pub start : SeatState
  pub first : Attempt
  pub begun : IsBegun lawful may (terms_in stm) stm.settings lent start first
  pub continues : Continues (moment start first None rings) (moment after t None rings_then)
  pub turn : t.turn ≡ 0

abbrev pub BegunBy : {S : Type 0} → (List ℕ → Type 0) → (List ℕ → List ℕ → Type 0) → StmState S → SeatState → Option (List ℕ) → SeatState → Option (FlightState S) → Option (List ℕ) → Type 0
BegunBy lawful may stm before rings after None rings_then = ⊥
BegunBy lawful may stm before rings after (Some flight) rings_then = BegunFrom lawful may stm before rings after flight.attempt rings_then

-- ---- closures

-- Cells at the end of a call stand so on a heap that is possible by what they read.
pub record StandsOn (lawful : List ℕ → Type 0) (cells : CellsState) (heap : List ℕ) (book : Book) : Type 0 where
  pub going : cells.cause ≡ None
  pub possible : IsPossible lawful cells.size cells.reads heap
  pub has : cells.now ≡ book

-- cells on which nothing is read, written or registered
abbrev pub fresh_cells : ℕ → CellsState
fresh_cells size = record { size = size; reads = []; now = empty_book; saved = []; cause = None }

-- These are the cells of an attempt that has just begun at this caller, on a table with this law and so many cells.
pub record JustBegun {D L : Type 0} (begins : D → Type 0) (law : D → L) (state : D → CellsState) (home : L) (size : ℕ) (start : D) : Type 0 where
  pub begun : begins start
  pub same_law : law start ≡ home
  pub fresh : state start ≡ fresh_cells size

-- A closure was called on such cells and gave this answer, with this book, on a heap that is possible by what it read.
pub record HasRun {D T : Type 0} (begins : D → Type 0) (called : D → Result T Cause → D → Type 0) (state : D → CellsState) (lawful : List ℕ → Type 0)
    (answer : Result T Cause) (heap : List ℕ) (book : Book) : Type 0 where
  pub start : D
  pub end : D
  pub begun : begins start
  pub call : called start answer end
  pub stands : StandsOn lawful (state end) heap book

-- A closure was called on such cells, with whatever answer.
pub record WasCalled {D T : Type 0} (begins : D → Type 0) (called : D → Result T Cause → D → Type 0) (state : D → CellsState) (lawful : List ℕ → Type 0)
    (heap : List ℕ) : Type 0 where
  pub answer : Result T Cause
  pub start : D
  pub end : D
  pub begun : begins start
  pub call : called start answer end
  pub possible : IsPossible lawful (state end).size (state end).reads heap

-- ---- the end of an attempt

-- The attempt may end with this answer of a closure: it waits to be asked, no before-commit body had its turn, and it meets what is owed.
pub record MayEndWith {T : Type 0} (lawful : List ℕ → Type 0) (may : List ℕ → List ℕ → Type 0) (size : ℕ) (t : Attempt) (answer : Result T Cause) : Type 0 where
  pub going : t.stage ≢ Ended
  pub first : t.turn ≡ 0
  pub owes : IfOk answer (λ out. Owing lawful may (cells_of size t))
  pub answers : IfErr answer (λ cause. IsOfBody cause ⊎ (cause_at t.stage ≡ Some cause))

-- From the one moment to the other it came to its end with this answer.
pub record EndedSo {S T : Type 0} (lawful : List ℕ → Type 0) (may : List ℕ → List ℕ → Type 0) (stm : StmState S) (before after : Moment) (answer : Result T Cause) (outcome : Outcome T) : Type 0 where
  pub continues : Continues before after
  pub on : IsOn lawful may (terms_in stm) after.seat after.attempt
  pub over : IsOver after.attempt
  pub so : EndsAs lawful (cells_in_stm stm) (λ out heap book. (answer ≡ Ok out) × StandsOn lawful (state_on stm before.attempt) heap book)
      (λ cause heap book. (answer ≡ Err cause) × StandsOn lawful (state_on stm before.attempt) heap book)
      (λ heap. IsPossible lawful (cells_in_stm stm) before.attempt.notes heap) after.attempt outcome
