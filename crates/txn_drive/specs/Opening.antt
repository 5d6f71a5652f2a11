-- Private: the two accesses by which an attempt begins. Here t is the attempt before them.
use Rattle.std.specs.Prelude.{ℕ, List, None}
use Rattle.meta_word.specs.declared.status.Phase.TheVariants.{Active}
use Rattle.ref_table.specs.Seats.{SeatState}
use Rattle.stm_model.specs.Accesses.{StoreStatus, access_of, active}
use Rattle.stm_model.specs.Attempt.{Attempt, Begin, Ready}
use Rattle.stm_model.specs.World.{Terms}
use Rattle.stm_model.specs.declared.access.Access.{Access}
use Rattle.txn_drive.specs.Stepping.{Accesses}

-- the store of its status
abbrev pub announcement : (number serial : ℕ) → Access
announcement number serial = access_of (StoreStatus number (active serial))

-- the attempt once its status is stored
abbrev pub announced : Attempt → Attempt
announced t = record t { phase = Active; stage = Begin }

-- the attempt once the clock was loaded as this
abbrev pub opened : Attempt → (clock : ℕ) → Attempt
opened t clock = record (announced t) { prefix = clock; stage = Ready None }

-- Its status was stored, and then the clock was loaded as this.
pub record Opens (lawful : List ℕ → Type 0) (may : List ℕ → List ℕ → Type 0) (terms : Terms) (before : SeatState) (t : Attempt) (after : SeatState) (clock : ℕ) : Type 0 where
  pub between : SeatState
  pub announces : Accesses lawful may terms before t between (announced t)
  pub loads : Accesses lawful may terms between (announced t) after (opened t clock)
