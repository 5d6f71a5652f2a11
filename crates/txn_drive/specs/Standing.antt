-- How a running attempt stands to the table.
use Rattle.std.specs.Prelude.{◌≡◌, ℕ, ◌≤◌, ◌⊎◌, List, [], length, IfSome}
use mathlib.Core.List.{IsPrefix}
use Rattle.ref_table.specs.Performs.{ComesFrom}
use Rattle.ref_table.specs.Seats.{SeatState}
use Rattle.ref_table.specs.Seen.{SafeSeat}
use Rattle.stm_model.specs.After.{run_all}
use Rattle.stm_model.specs.Attempt.{Attempt, Due, Ended, cause_at}
use Rattle.stm_model.specs.Handlers.{Handlers}
use Rattle.stm_model.specs.Moves.{AwaitsAsk}
use Rattle.stm_model.specs.Refusing.{IsOfCells, deepest}
use Rattle.stm_model.specs.Safe.{Safe}
use Rattle.stm_model.specs.World.{Terms, World}

-- There is a safe world in which the caller knows what its seat knows, and whose history begins with the entries that the seat has seen.
pub record IsOfWorld (lawful : List ℕ → Type 0) (may : List ℕ → List ℕ → Type 0) (terms : Terms) (seat : SeatState) : Type 0 where
  pub world : World
  pub safe : Safe lawful may terms world
  pub knows : seat.view ≡ world.view seat.number
  pub had : IsPrefix seat.seen world.history

-- all of this is handlers to be run
abbrev pub AreRuns : List Due → Type 0
AreRuns dues = (hooks : Handlers) × (dues ≡ run_all hooks)

-- The seat knows the attempt that is over, but for handlers that have run since, and what is still due of it is handlers alone.
pub record IsSameEnd (known t : Attempt) : Type 0 where
  pub is : t ≡ record known { due = t.due; now = record known.now { runs = t.now.runs } }
  pub handlers : AreRuns t.due

-- The attempt comes by local moves from the one that its caller's seat knows, that one is of a safe world, and the seat can be relied on. Once the attempt is over, the seat knows it as it is, but for handlers.
pub record IsOn (lawful : List ℕ → Type 0) (may : List ℕ → List ℕ → Type 0) (terms : Terms) (seat : SeatState) (t : Attempt) : Type 0 where
  pub comes : ComesFrom terms seat.view.attempt t
  pub shown : IsOfWorld lawful may terms seat
  pub safe : SafeSeat lawful may terms seat
  pub over : t.stage ≡ Ended → IsSameEnd seat.view.attempt t

-- It waits to be asked by a body: it was refused nothing, or what cells refuse with, and no more levels are open than may be.
pub record IsAskable (lawful : List ℕ → Type 0) (may : List ℕ → List ℕ → Type 0) (terms : Terms) (seat : SeatState) (t : Attempt) : Type 0 where
  pub on : IsOn lawful may terms seat t
  pub awaits : AwaitsAsk t
  pub refused : IfSome (cause_at t.stage) IsOfCells
  pub deep : length t.saved ≤ deepest

-- It is over, and nothing is due.
pub record IsOver (t : Attempt) : Type 0 where
  pub stage : t.stage ≡ Ended
  pub nothing_due : t.due ≡ []

-- It waits to be asked, or is over.
abbrev pub Rests : Attempt → Type 0
Rests t = AwaitsAsk t ⊎ IsOver t
