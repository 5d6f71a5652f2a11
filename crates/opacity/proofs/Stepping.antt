-- The step of a caller whose attempt stands at a given stage.
use Rattle.std.proofs.Common.{◌≡◌, ℕ, ◌-◌, ◌<◌, ◌≤◌, Option, Some, None, List, length, refl, subst}
use Rattle.meta_word.specs.declared.status.Phase.{Phase}
use Rattle.meta_word.specs.declared.status.Phase.TheVariants.{Preparing}
use Rattle.stm_model.specs.declared.ending.Ending.{Ending}
use Rattle.stm_model.specs.declared.ending.Ending.TheVariants.{Committed, Rolled}
use Rattle.stm_model.specs.Accesses.{Act, next_at}
use Rattle.stm_model.specs.After.{after_at}
use Rattle.stm_model.specs.Attempt.{Attempt, Close, Release, RollBack, Stage, Write, stamp_in}
use Rattle.stm_model.specs.History.{entry_after}
use Rattle.stm_model.specs.Safe.{ClosingPhase, PhaseAt, EndingAt, EndsSo}
use Rattle.stm_model.specs.World.{World, attempt_of, words_after, clock_after, entry_of, found, seen_after, since_at, step_by, with_view}

-- the world after this access, made by an attempt at this stage
abbrev pub stepped_by : World → ℕ → Stage → Option Act → World
stepped_by w p stage None = w
stepped_by w p stage (Some this) = with_view (words_after w (attempt_of w p) this) p (record (w.view p) {
  attempt = after_at (attempt_of w p) stage (found w this);
  seen = seen_after w (w.view p) this;
  since = since_at (w.view p) stage;
  clock = clock_after w (w.view p) this;
})

-- the world after the access that it makes there
abbrev pub stepped : World → ℕ → Stage → World
stepped w p stage = stepped_by w p stage (next_at (attempt_of w p) stage)

pub step_is : (w : World) (p : ℕ) (this : Option Act) → step_by w p this ≡ stepped_by w p (attempt_of w p).stage this
unfolding step_by
step_is w p None = refl
step_is w p (Some this) = refl

-- ---- what is known of an attempt whose end is certain

-- Its stamp is the place of its entry.
pub record IsStamped (w : World) (t : Attempt) : Type 0 where
  pub above : 0 < stamp_in t.ending
  pub high : stamp_in t.ending ≤ length w.history
  pub entry : entry_after w.history (stamp_in t.ending - 1) ≡ entry_of t

-- Who releases its cells, and who stores its values, has committed.
committed_by : (write : Write) (behind : List Write) (ending : Option Ending) → EndingAt (Release write behind) ending → (stamp : ℕ) × (ending ≡ Some (Committed stamp))
unfolding EndingAt
committed_by write behind (Some (Committed stamp)) at = (stamp, refl)
committed_by write behind ending at = absurd at

pub stamped_release : (w : World) (t : Attempt) (write : Write) (behind : List Write) → EndingAt (Release write behind) t.ending → EndsSo w t t.ending → IsStamped w t
unfolding EndsSo
stamped_release w t write behind at so =
    let is = committed_by write behind t.ending at in
    let stamped = subst (λ (ending : Option Ending). EndsSo w t ending) is.1 so in
    rw is.1 (record { above = stamped.0; high = stamped.1; entry = stamped.2 })

pub release_close : (write : Write) (behind : List Write) (ending : Option Ending) → EndingAt (Release write behind) ending → EndingAt Close ending
unfolding EndingAt
release_close write behind ending at = rw (committed_by write behind ending at).1 tt

pub release_phase : (write : Write) (behind : List Write) (ending : Option Ending) (phase : Phase) → EndingAt (Release write behind) ending → phase ≡ Preparing → PhaseAt Close ending phase
unfolding PhaseAt ClosingPhase
release_phase write behind ending phase at prepares = rw (committed_by write behind ending at).1 prepares

-- Who rolls back has a cause.
pub roll_back_close : (write : Write) (behind : List Write) (ending : Option Ending) → EndingAt (RollBack write behind) ending → EndingAt Close ending
unfolding EndingAt
roll_back_close write behind (Some (Rolled cause prefix)) at = tt
roll_back_close write behind ending at = absurd at

pub roll_back_stamp : (write : Write) (behind : List Write) (ending : Option Ending) → EndingAt (RollBack write behind) ending → stamp_in ending ≡ 0
unfolding EndingAt
roll_back_stamp write behind (Some (Committed stamp)) at = absurd at
roll_back_stamp write behind ending at = refl
