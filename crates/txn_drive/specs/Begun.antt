-- The begin of an attempt.
use Rattle.std.specs.Prelude.{◌≡◌, ℕ, suc, List, length, None}
use Rattle.meta_word.specs.declared.status.Phase.TheVariants.{Active}
use Rattle.ref_table.specs.Seats.{SeatState}
use Rattle.stm_model.specs.Attempt.{Announce, Attempt, Ready, no_attempt}
use Rattle.stm_model.specs.World.{Terms}
use Rattle.stm_model.specs.declared.settings.Settings.{Settings}
use Rattle.txn_drive.specs.Going.{SeesMore}
use Rattle.txn_drive.specs.Standing.{IsOn}

-- a caller's attempt of this number, before its first access
abbrev pub unbegun : (number serial : ℕ) → Settings → Attempt
unbegun number serial settings = record (no_attempt number settings) { serial = serial; stage = Announce }

-- the caller's next attempt, before its first access
abbrev pub first_of : SeatState → Settings → Attempt
first_of seat settings = unbegun seat.number (suc seat.view.attempt.serial) settings

-- the same once it has loaded the clock, and waits to be asked
abbrev pub begun : SeatState → Settings → (prefix : ℕ) → Attempt
begun seat settings prefix = record (first_of seat settings) { phase = Active; prefix = prefix; stage = Ready None }

-- The caller's next attempt has begun: its status is stored, and it has loaded the clock. Its prefix is how many entries the seat has seen then, and how many it had seen before is kept.
pub record IsBegun (lawful : List ℕ → Type 0) (may : List ℕ → List ℕ → Type 0) (terms : Terms) (settings : Settings) (before after : SeatState) (t : Attempt) : Type 0 where
  pub is : t ≡ begun before settings t.prefix
  pub prefix : t.prefix ≡ after.view.seen
  pub on : IsOn lawful may terms after t
  pub seat : SeesMore (suc before.view.attempt.serial) before after
  pub since : after.view.since ≡ length before.seen
