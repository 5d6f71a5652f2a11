-- Callers: who may make an attempt, and what stays the same of them.
use Rattle.std.specs.Prelude.{◌≡◌, ℕ, ◌≤◌, List, Option}
use Rattle.ref_table.specs.Calls.{AreEmpty}
use Rattle.ref_table.specs.Seats.{SeatState, StmState, terms_in}
use Rattle.ref_table.specs.Seen.{SafeSeat}
use Rattle.stm_model.specs.Attempt.{Attempt, Ended}
use Rattle.stm_model.specs.Handlers.{Handlers}
use Rattle.stm_model.specs.History.{Entry}
use Rattle.stm_model.specs.World.{View}

-- a caller's number, what it knows, the entries of the history that it has seen, and the handlers run and the cells rung for so far, where they are told
pub record CallerState : Type 0 where
  pub number : ℕ
  pub view : View
  pub seen : List Entry
  pub runs : Option Handlers
  pub rings : Option (List ℕ)

abbrev pub caller_of : SeatState → Option Handlers → Option (List ℕ) → CallerState
caller_of seat runs rings = record { number = seat.number; view = seat.view; seen = seat.seen; runs = runs; rings = rings }

-- the latest attempt of a seat's caller
abbrev pub attempt_in : SeatState → Attempt
attempt_in seat = seat.view.attempt

-- The seat is one of the table, no attempt of it is in flight, it has made no more than there may be, and the lists that it lends are empty.
pub record MayBegin {S : Type 0} (lawful : List ℕ → Type 0) (may : List ℕ → List ℕ → Type 0) (stm : StmState S) (seat : SeatState) : Type 0 where
  pub table : seat.table ≡ stm.table
  pub safe : SafeSeat lawful may (terms_in stm) seat
  pub over : (attempt_in seat).stage ≡ Ended
  pub attempts : (attempt_in seat).serial ≤ stm.settings.attempts
  pub lists : AreEmpty seat.lists

-- It is the caller of the same number, at the same table.
pub record IsSameCaller {S : Type 0} (stm stm_then : StmState S) (before after : SeatState) : Type 0 where
  pub same : stm_then ≡ stm
  pub table : after.table ≡ before.table
  pub number : after.number ≡ before.number
