-- Private: what the parts of a first write keep.
use Rattle.std.specs.Prelude.{◌≡◌, ℕ, Bool, if◌then◌else◌}
use Rattle.meta_word.specs.Meta.{owned_by_another}
use Rattle.meta_word.specs.declared.meta.Meta.{Meta}
use Rattle.op_commit.specs.Acquire.{IsAcquiring, IsWithin}
use Rattle.op_commit.specs.declared.acquire.AcquireEnd.TheVariants.{Owned}
use Rattle.op_commit.specs.declared.acquire.AcquireOp.{AcquireOp}
use Rattle.op_commit.specs.declared.acquire.AcquirePlace.{AcquirePlace}
use Rattle.op_commit.specs.declared.acquire.AcquirePlace.TheVariants.{Ended}
use Rattle.stm_model.specs.After.{acquire_again, doom_or_again}
use Rattle.stm_model.specs.Attempt.{Attempt}

-- It is still the first write of the same cell, for the same attempts, and within its bounds.
pub record Keeps (before after : AcquireOp) : Type 0 where
  pub addr : after.addr ≡ before.addr
  pub same : (t : Attempt) → IsAcquiring before t → IsAcquiring after t
  pub within : IsWithin after

-- It goes on, or was refused.
abbrev pub IsUnowned : AcquirePlace → Type 0
IsUnowned (Ended (Owned meta)) = ⊥
IsUnowned place = Unit {0}

-- The cell has an owner: another, or the caller itself.
abbrev pub met : Attempt → (cell value left : ℕ) → (tried : Bool) → Meta → Attempt
met t cell value left tried first =
    if owned_by_another t.own first
    then doom_or_again t cell value left tried first
    else acquire_again t cell value left tried first first
