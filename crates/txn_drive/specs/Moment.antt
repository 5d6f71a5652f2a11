-- A running attempt at a moment.
use Rattle.std.specs.Prelude.{ℕ, List, Option}
use Rattle.ref_table.specs.Seats.{SeatState}
use Rattle.stm_model.specs.Attempt.{Attempt}
use Rattle.stm_model.specs.Handlers.{Handlers}

-- what its caller's seat knows, the attempt as it is, and who is called from inside it: the handlers run and the cells rung for, where they are told
pub record Moment : Type 0 where
  pub seat : SeatState
  pub attempt : Attempt
  pub runs : Option Handlers
  pub rings : Option (List ℕ)

abbrev pub moment : SeatState → Attempt → Option Handlers → Option (List ℕ) → Moment
moment seat attempt runs rings = record { seat = seat; attempt = attempt; runs = runs; rings = rings }
