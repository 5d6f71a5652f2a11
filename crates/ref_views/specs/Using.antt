-- What calls on one cell leave of all else.
use Rattle.std.specs.Prelude.{◌≡◌, ◌⊎◌, ℕ, Bool, [], ◌∷◌, ◌++◌, None, Some, IsTrue, MatchBool}
use Rattle.stm_model.specs.declared.cause.Cause.{Cause}
use Rattle.stm_model.specs.declared.note.Note.{Note}
use Rattle.stm_model.specs.CellsState.{CellsState}
use Rattle.stm_model.specs.Heap.{put}
use Rattle.stm_model.specs.Refusing.{IsAway, RefusesRead, RefusesWrite}
use Rattle.stm_model.specs.Telling.{IsAtHand}

-- whether calls may have noted their cell, and whether they wrote it
pub record Use : Type 0 where
  pub reads : Bool
  pub writes : Bool

-- Calls used this cell alone. No note came in but one of the cell, where it was neither noted nor written before, and no cell was written but this one. While no cause was answered, it is noted or written now. Nothing else changed but for the cause. After one that was answered before, nothing changes at all.
pub record Uses (address : ℕ) (how : Use) (before after : CellsState) : Type 0 where
  pub only : after ≡ record before { reads = after.reads; now = record before.now { writes = after.now.writes }; cause = after.cause }
  pub notes : (after.reads ≡ before.reads)
      ⊎ (IsTrue how.reads × IsAway address before × (note : Note) × (note.addr.0 ≡ address) × (after.reads ≡ before.reads ++ note ∷ []))
  pub wrote : MatchBool how.writes ((word : ℕ) × (after.now.writes ≡ put before.now.writes address word)) (after.now.writes ≡ before.now.writes)
  pub at_hand : after.cause ≡ None → IsAtHand address after
  pub again : (earlier : Cause) → before.cause ≡ Some earlier → after ≡ before

-- A read of the cell is refused with such a cause and no note came in, or a write of it after that.
abbrev pub RefusesUse : ℕ → (before after : CellsState) → Cause → Type 0
RefusesUse address before after cause = (RefusesRead before address cause × (after.reads ≡ before.reads)) ⊎ RefusesWrite after address cause
