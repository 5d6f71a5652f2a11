-- Attempts that are driven on a table.
use Rattle.std.specs.Prelude.{◌≡◌, []}
use Rattle.ref_table.specs.Performs.{ComesFrom}
use Rattle.ref_table.specs.Seats.{SeatState}
use Rattle.stm_model.specs.Attempt.{Attempt, Ended}
use Rattle.stm_model.specs.World.{Terms}

-- The caller has no attempt in flight, and nothing is due.
pub record Rests (seat : SeatState) : Type 0 where
  pub own : seat.view.attempt.own ≡ seat.number
  pub stage : seat.view.attempt.stage ≡ Ended
  pub nothing_due : seat.view.attempt.due ≡ []

-- The attempt comes by local moves from the one that the seat knows, and where it has ended it is that one.
pub record IsOn (terms : Terms) (seat : SeatState) (t : Attempt) : Type 0 where
  pub comes : ComesFrom terms seat.view.attempt t
  pub own : seat.view.attempt.own ≡ seat.number
  pub limit : t.settings.clock ≡ terms.limit
  pub over : t.stage ≡ Ended → seat.view.attempt ≡ t
