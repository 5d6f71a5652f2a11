-- Every step, every local move, and every look and wait keep the world safe.
use Rattle.std.proofs.Common.{sym, Option, Some, ap, ◌≡◌, ℕ, List, [], ◌∷◌, refl}
use Rattle.stm_model.specs.Accesses.{Act, ExchangeClock, next, next_at, unless_due}
use Rattle.stm_model.specs.Attempt.{Attempt, Due, Stage, Announce, Begin, Ready, Late, Stopped, ReadMeta, ExtendClock, ExtendNote, ReadValue, Validate, AcquireMeta, Acquire, OwnerStatus, OwnerMeta, DoomOwner, ReleaseLevel, Prepare, Mark, CommitClock, CommitNote, Decide, StoreValues, Release, RollBack, Close, Ended}
use Rattle.stm_model.specs.Owes.{Owes}
use Rattle.stm_model.specs.Safe.{Safe}
use Rattle.stm_model.specs.World.{Event, Looks, MayHappen, MeetsOwed, Moves, Steps, Waits, happened, IsCaller, Terms, World, attempt_of, cells_in, step}
use Rattle.opacity.proofs.Acquires.{keeps_acquire_meta, keeps_acquire}
use Rattle.opacity.proofs.Commits.{keeps_commit_note, keeps_decide, keeps_commit_clock}
use Rattle.opacity.proofs.Dooms.{keeps_doom_owner, keeps_owner_meta, keeps_owner_status}
use Rattle.opacity.proofs.Events.{look_safe, wait_safe}
use Rattle.opacity.proofs.RollBacks.{keeps_roll_back, keeps_release_level, keeps_mark}
use Rattle.opacity.proofs.LocalMoves.{move_safe}
use Rattle.opacity.proofs.ReadSteps.{keeps_extend_note, keeps_read_value, keeps_read_meta, keeps_extend_clock, keeps_validate}
use Rattle.opacity.proofs.Releases.{keeps_release}
use Rattle.opacity.proofs.StatusSteps.{keeps_announce, keeps_begin, keeps_close, keeps_prepare}
use Rattle.opacity.proofs.Stepping.{step_is, stepped, stepped_by}
use Rattle.opacity.proofs.Stores.{keeps_store_values}

-- Where an attempt makes this access and wins the exchange of the clock, its writes meet what is owed.
abbrev pub Meets : (List ℕ → Type 0) → (List ℕ → List ℕ → Type 0) → Terms → World → Attempt → Option Act → Type 0
Meets lawful may terms w t this = this ≡ Some (ExchangeClock w.clock) → Owes lawful may (cells_in terms) t.notes t.now.writes

module _ (lawful : List ℕ → Type 0) (may : List ℕ → List ℕ → Type 0) (terms : Terms) (w : World) (p : ℕ) (safe : Safe lawful may terms w) (caller : IsCaller terms p) where
  stands : (stage : Stage) → (attempt_of w p).stage ≡ stage → Meets lawful may terms w (attempt_of w p) (next_at (attempt_of w p) stage) → Safe lawful may terms (stepped w p stage)
  unfolding next_at
  stands Announce is owes = keeps_announce lawful may terms w p safe caller is
  stands Begin is owes = keeps_begin lawful may terms w p safe caller is
  stands (Ready answer) is owes = safe
  stands (Late token) is owes = safe
  stands (Stopped cause) is owes = safe
  stands (ReadMeta cell left) is owes = keeps_read_meta lawful may terms w p safe caller cell left is
  stands (ExtendClock cell left first) is owes = keeps_extend_clock lawful may terms w p safe caller cell left first is
  stands (ExtendNote cell left first clock note behind) is owes = keeps_extend_note lawful may terms w p safe caller cell left first clock note behind is
  stands (ReadValue cell left first) is owes = keeps_read_value lawful may terms w p safe caller cell left first is
  stands (Validate cell left first value) is owes = keeps_validate lawful may terms w p safe caller cell left first value is
  stands (AcquireMeta cell value left doomed) is owes = keeps_acquire_meta lawful may terms w p safe caller cell value left doomed is
  stands (Acquire cell value left doomed first expected again) is owes = keeps_acquire lawful may terms w p safe caller cell value left doomed first expected again is
  stands (OwnerStatus cell value left first) is owes = keeps_owner_status lawful may terms w p safe caller cell value left first is
  stands (OwnerMeta cell value left first status) is owes = keeps_owner_meta lawful may terms w p safe caller cell value left first status is
  stands (DoomOwner cell value left first second status) is owes = keeps_doom_owner lawful may terms w p safe caller cell value left first second status is
  stands (ReleaseLevel kept write behind) is owes = keeps_release_level lawful may terms w p safe caller kept write behind is
  stands Prepare is owes = keeps_prepare lawful may terms w p safe caller is
  stands (Mark write behind) is owes = keeps_mark lawful may terms w p safe caller write behind is
  stands (CommitClock lost) is owes = keeps_commit_clock lawful may terms w p safe caller lost is
  stands (CommitNote lost clock note behind) is owes = keeps_commit_note lawful may terms w p safe caller lost clock note behind is
  stands (Decide lost clock) is owes = keeps_decide lawful may terms w p safe caller lost clock is (λ won. owes (ap (λ (n : ℕ). Some (ExchangeClock n)) (sym won)))
  stands (StoreValues write behind) is owes = keeps_store_values lawful may terms w p safe caller write behind is
  stands (Release write behind) is owes = keeps_release lawful may terms w p safe caller write behind is
  stands (RollBack write behind) is owes = keeps_roll_back lawful may terms w p safe caller write behind is
  stands Close is owes = keeps_close lawful may terms w p safe caller is
  stands Ended is owes = safe

  by_due : (due : List Due) → Meets lawful may terms w (attempt_of w p) (unless_due due (next_at (attempt_of w p) (attempt_of w p).stage)) → Safe lawful may terms (stepped_by w p (attempt_of w p).stage (unless_due due (next_at (attempt_of w p) (attempt_of w p).stage)))
  by_due [] owes = stands (attempt_of w p).stage refl owes
  by_due (due ∷ dues) owes = safe

  step_safe : Meets lawful may terms w (attempt_of w p) (next (attempt_of w p)) → Safe lawful may terms (step w p)
  step_safe owes = rw (step_is w p (next (attempt_of w p))) (by_due (attempt_of w p).due owes)

-- ---- events

module _ (lawful : List ℕ → Type 0) (may : List ℕ → List ℕ → Type 0) (terms : Terms) where
  pub event_safe : (w : World) (event : Event) → MayHappen terms w event → MeetsOwed lawful may terms w event → Safe lawful may terms w → Safe lawful may terms (happened w event)
  unfolding MayHappen MeetsOwed happened
  event_safe w (Steps p) able meets safe = step_safe lawful may terms w p safe able meets
  event_safe w (Moves p this) able meets safe = move_safe lawful may terms w p safe able.0 this able.1
  event_safe w (Looks p) able meets safe = look_safe lawful may terms w p safe able.0
  event_safe w (Waits p cell) able meets safe = wait_safe lawful may terms w p safe able.0 cell able.2
