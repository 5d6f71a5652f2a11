-- What the steps of an attempt make of its caller's seat, and of who is called from inside it.
use Rattle.std.specs.Prelude.{◌≡◌, ◌≢◌, ℕ, ◌<◌, ◌≤◌, ◌⊎◌, length}
use mathlib.Core.List.{IsPrefix}
use Rattle.ref_table.specs.Seats.{IsSameSeat, SeatState}
use Rattle.stm_core.specs.Machine.{IsRefused, IsSameAttempt}
use Rattle.stm_model.specs.Attempt.{Announce, Attempt}
use Rattle.stm_model.specs.History.{entry_after}
use Rattle.stm_model.specs.Moves.{Takes, moved}
use Rattle.stm_model.specs.declared.access.Ask.{Ask}
use Rattle.txn_drive.specs.Calls.{Calls}
use Rattle.txn_drive.specs.Moment.{Moment}
use Rattle.txn_drive.specs.Paying.{IsLed}

-- The seat has seen no less. Entries of its caller that came in are of the attempt of this number, and it has waited for no cell.
pub record SeesMore (serial : ℕ) (before after : SeatState) : Type 0 where
  pub same : IsSameSeat before after
  pub grows : IsPrefix before.seen after.seen
  pub mine : (n : ℕ) → length before.seen ≤ n → n < length after.seen → (entry_after after.seen n).caller ≡ before.number → (entry_after after.seen n).serial ≡ serial
  pub waits : after.view.waits ≡ before.view.waits

-- The same attempt goes on, whatever it is asked. Once it has made its first access, what its caller had seen before that stays.
pub record Continues (before after : Moment) : Type 0 where
  pub same : IsSameAttempt before.attempt after.attempt
  pub seat : SeesMore before.attempt.serial before.seat after.seat
  pub since : before.attempt.stage ≢ Announce → (after.seat.view.since ≡ before.seat.view.since) × (after.attempt.stage ≢ Announce)
  pub runs : Calls before.attempt.now.runs after.attempt.now.runs before.runs after.runs
  pub rings : Calls before.attempt.rings after.attempt.rings before.rings after.rings

-- It goes on by its steps, and has its turn at no further before-commit body.
pub record Goes (before after : Moment) : Type 0 where
  pub continues : Continues before after
  pub led : IsLed before.attempt after.attempt
  pub turn : after.attempt.turn ≡ before.attempt.turn

-- It took the ask and was led on, or was refused it, out of memory.
abbrev pub IsAsked : Attempt → Ask → Attempt → Type 0
IsAsked t ask later = IsLed (moved t (Takes ask)) later ⊎ IsRefused t ask later
