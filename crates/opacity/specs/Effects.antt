-- What an event does to the history, to others' views and to status words.
use Rattle.std.specs.Prelude.{◌≡◌, ℕ, List, Some}
use Rattle.meta_word.specs.declared.meta.Meta.{Meta}
use Rattle.meta_word.specs.declared.status.Phase.TheVariants.{Active}
use Rattle.meta_word.specs.declared.status.TxnStatus.{TxnStatus}
use Rattle.stm_model.specs.Accesses.{ExchangeClock, next}
use Rattle.stm_model.specs.Attempt.{Attempt, DoomOwner}
use Rattle.stm_model.specs.Moves.{Move, moved_on}
use Rattle.stm_model.specs.World.{Event, Looks, Moves, Steps, Waits, World, attempt_of, with_view}

-- whose event it is
abbrev pub caller_of : Event → ℕ
caller_of (Steps p) = p
caller_of (Moves p this) = p
caller_of (Looks p) = p
caller_of (Waits p cell) = p

-- A caller's attempt makes the exchange of the clock, and wins it.
pub record WinsClock (w : World) (p : ℕ) (event : Event) : Type 0 where
  pub steps : event ≡ Steps p
  pub access : next (attempt_of w p) ≡ Some (ExchangeClock w.clock)

-- An attempt is about to doom the owner of a cell: it has found this status active, and then a cell owned by that one.
pub record IsToDoom (t : Attempt) (owner : ℕ) (status : TxnStatus) : Type 0 where
  pub cell : ℕ
  pub value : ℕ
  pub left : ℕ
  pub first : Meta
  pub second : Meta
  pub stands : t.stage ≡ DoomOwner cell value left first second status
  pub owned : second.owner ≡ owner
  pub active : status.phase ≡ Active

-- A caller has seen the first n entries of the history, as another may tell it.
abbrev pub learn : World → ℕ → ℕ → World
learn w p n = with_view w p (record (w.view p) { seen = n })

-- the world after local moves of a caller, one after another
abbrev pub moved_by : World → ℕ → List Move → World
moved_by w p moves = with_view w p (record (w.view p) { attempt = moved_on (attempt_of w p) moves })
