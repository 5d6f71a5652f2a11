-- Events that change one caller's view alone.
use Rattle.std.proofs.Common.{IfSome, ◌≡◌, ℕ, ◌≤◌, true, None, Option, List, [], refl, sym, ◌∙◌, arith, inl, subst, ap}
use Rattle.meta_word.specs.declared.status.Phase.{Phase}
use Rattle.meta_word.specs.declared.status.Phase.TheVariants.{Active}
use Rattle.stm_model.specs.declared.ending.Ending.{Ending}
use Rattle.stm_model.specs.After.{at}
use Rattle.stm_model.specs.Attempt.{Attempt, Stage, Write, Announce, Begin, ReleaseLevel, Mark, CommitClock, CommitNote, Decide, StoreValues, Release, RollBack, Close, Ended, cause_at, held_at, unmarked_at, unstored_at, flies_at}
use Rattle.stm_model.specs.Heap.{writes_to}
use Rattle.stm_model.specs.Safe.{EndingAt, HasBegun, PhaseAt, Safe, SafeAttempt, SafeStage, EndsSo, Sound}
use Rattle.stm_model.specs.World.{IsCaller, Terms, View, World, attempt_of, with_view}
use Rattle.opacity.proofs.Shown.{Shows}
use Rattle.opacity.proofs.Cells.{AlikeAt, same_of}
use Rattle.opacity.proofs.Places.{attempt_else, attempt_here}
use Rattle.opacity.proofs.Stands.{kept_flying, IsPlain, plain_cause, placed_with, Follows, Knows, own_follows}
use Rattle.opacity.proofs.Whole.{safe_moved}

-- An attempt goes on as another that holds each cell alike and is safe.
pub record Fits (terms : Terms) (w : World) (p : ℕ) (t u : Attempt) : Type 0 where
  pub alike : (cell : ℕ) → AlikeAt cell u t
  pub follows : Follows t u
  pub safe : SafeAttempt terms w p u

module _ (lawful : List ℕ → Type 0) (may : List ℕ → List ℕ → Type 0) (terms : Terms) (w : World) (p : ℕ) (safe : Safe lawful may terms w) (caller : IsCaller terms p) where
  fits_safe : (x : View) → Fits terms w p (attempt_of w p) x.attempt → Knows w (w.view p) x → Safe lawful may terms (with_view w p x)
  fits_safe x fits knows =
      safe_moved lawful may terms w w.meta w.value w.status p x safe caller
      (λ cell within. inl (same_of terms w (with_view w p x) p cell (safe.cells cell within) caller.0 (attempt_else w p x)
      (rw (attempt_here w p x) (fits.alike cell)) refl refl refl refl))
      (λ q other. inl refl)
      (own_follows terms w p (attempt_of w p) x refl (safe.views p caller.1) (safe.statuses p caller) (λ n within is. safe.callers.undecided n p within is) knows fits.follows fits.safe)

  -- The view alone changes, and the attempt goes on from this stage.
  pub safe_seen : (stage : Stage) → (attempt_of w p).stage ≡ stage → (x : View) → Fits terms w p (at (attempt_of w p) stage) x.attempt → Knows w (w.view p) x
      → Safe lawful may terms (with_view w p x)
  safe_seen stage is x fits knows =
      fits_safe x (subst (λ (s : Stage). Fits terms w p (at (attempt_of w p) s) x.attempt) (sym is) fits) knows

  -- The attempt alone changes.
  pub safe_local : (stage : Stage) → (attempt_of w p).stage ≡ stage → (u : Attempt) → Fits terms w p (at (attempt_of w p) stage) u
      → Safe lawful may terms (with_view w p (record (w.view p) { attempt = u }))
  safe_local stage is u fits =
      let view = safe.views p caller.1 in
      safe_seen stage is (record (w.view p) { attempt = u }) fits (record { seen = omega arith; high = view.seen; since = refl; clock = view.clock })

-- what is said of the stage where it stands
pub stage_is : (terms : Terms) (w : World) (p : ℕ) (stage : Stage) → SafeAttempt terms w p (attempt_of w p) → (attempt_of w p).stage ≡ stage → SafeStage terms w (attempt_of w p) stage
stage_is terms w p stage safe is = subst (λ (s : Stage). SafeStage terms w (attempt_of w p) s) is safe.stage

pub phase_is : (terms : Terms) (w : World) (p : ℕ) (stage : Stage) → SafeAttempt terms w p (attempt_of w p) → (attempt_of w p).stage ≡ stage → PhaseAt stage (attempt_of w p).ending (attempt_of w p).phase
phase_is terms w p stage safe is = subst (λ (s : Stage). PhaseAt s (attempt_of w p).ending (attempt_of w p).phase) is safe.phase

pub ending_is : (terms : Terms) (w : World) (p : ℕ) (stage : Stage) → SafeAttempt terms w p (attempt_of w p) → (attempt_of w p).stage ≡ stage → EndingAt stage (attempt_of w p).ending
ending_is terms w p stage safe is = subst (λ (s : Stage). EndingAt s (attempt_of w p).ending) is safe.ending

-- ---- stages of a body that runs

-- An attempt stands open where its body runs, or has just ended: it holds its cells, unmarked, and its end isn't certain.
abbrev pub IsOpen : Stage → Type 0
IsOpen Announce = ⊥
IsOpen Begin = ⊥
IsOpen (ReleaseLevel kept write behind) = ⊥
IsOpen (Mark write behind) = ⊥
IsOpen (CommitClock lost) = ⊥
IsOpen (CommitNote lost clock note behind) = ⊥
IsOpen (Decide lost clock) = ⊥
IsOpen (StoreValues write behind) = ⊥
IsOpen (Release write behind) = ⊥
IsOpen (RollBack write behind) = ⊥
IsOpen Close = ⊥
IsOpen Ended = ⊥
IsOpen stage = Unit {0}

pub record OpenFacts (stage : Stage) : Type 0 where
  pub held : (writes : List Write) → held_at writes stage ≡ writes
  pub unmarked : (phase : Phase) (writes : List Write) → unmarked_at phase writes stage ≡ writes
  pub unstored : unstored_at stage ≡ []
  pub flies : flies_at stage ≡ true
  pub begun : HasBegun stage
  pub phase_from : (ending : Option Ending) (phase : Phase) → PhaseAt stage ending phase → phase ≡ Active
  pub phase_to : (ending : Option Ending) (phase : Phase) → phase ≡ Active → PhaseAt stage ending phase
  pub ending_from : (ending : Option Ending) → EndingAt stage ending → ending ≡ None
  pub ending_to : (ending : Option Ending) → ending ≡ None → EndingAt stage ending

pub open_facts : (stage : Stage) → IsOpen stage → OpenFacts stage
unfolding held_at unmarked_at unstored_at flies_at HasBegun PhaseAt EndingAt
open_facts Announce is_open = absurd is_open
open_facts Begin is_open = absurd is_open
open_facts (ReleaseLevel kept write behind) is_open = absurd is_open
open_facts (Mark write behind) is_open = absurd is_open
open_facts (CommitClock lost) is_open = absurd is_open
open_facts (CommitNote lost clock note behind) is_open = absurd is_open
open_facts (Decide lost clock) is_open = absurd is_open
open_facts (StoreValues write behind) is_open = absurd is_open
open_facts (Release write behind) is_open = absurd is_open
open_facts (RollBack write behind) is_open = absurd is_open
open_facts Close is_open = absurd is_open
open_facts Ended is_open = absurd is_open
open_facts stage is_open = record {
  held = λ writes. refl;
  unmarked = λ phase writes. refl;
  unstored = refl;
  flies = refl;
  begun = tt;
  phase_from = λ ending phase is. is;
  phase_to = λ ending phase is. is;
  ending_from = λ ending is. is;
  ending_to = λ ending is. is;
}

-- The attempt has gone on with what it has read, written and registered, in the same attempt of the caller.
pub record GoesOn (terms : Terms) (w : World) (p : ℕ) (t u : Attempt) : Type 0 where
  pub serial : u.serial ≡ t.serial
  pub phase : u.phase ≡ t.phase
  pub ending : u.ending ≡ t.ending
  pub prefix : t.prefix ≤ u.prefix
  pub writes : (cell : ℕ) → writes_to u.now.writes cell ≡ writes_to t.now.writes cell
  pub sound : Sound terms w p u

module _ (terms : Terms) (w : World) (p : ℕ) where
  -- Its number, phase, ending, prefix and writes are the same.
  pub goes_on : (t u : Attempt) → u.serial ≡ t.serial → u.phase ≡ t.phase → u.ending ≡ t.ending → u.prefix ≡ t.prefix → u.now.writes ≡ t.now.writes → Sound terms w p u → GoesOn terms w p t u
  goes_on t u serial phase ending prefix writes sound = record {
    serial = serial;
    phase = phase;
    ending = ending;
    prefix = omega (arith, prefix);
    writes = λ cell. ap (λ (each : List Write). writes_to each cell) writes;
    sound = sound;
  }

  pub goes_on_same : (t : Attempt) → Sound terms w p t → GoesOn terms w p t t
  goes_on_same t sound = goes_on t t refl refl refl refl refl sound

  alike_open : (t u : Attempt) (here there : Stage) → OpenFacts here → OpenFacts there → ((cell : ℕ) → writes_to u.now.writes cell ≡ writes_to t.now.writes cell) → u.ending ≡ t.ending → u.phase ≡ t.phase
      → (cell : ℕ) → AlikeAt cell (at u there) (at t here)
  alike_open t u here there first second writes ending phase cell = record {
    held = rw (first.held, second.held) (writes cell);
    marked = λ held. rw (first.held, second.held, first.unmarked, second.unmarked, writes cell) refl;
    unstored = λ held. rw (first.unstored, second.unstored) refl;
    stamp = λ held. rw ending refl;
  }

  -- From one open stage to another, with a cause that is shown
  pub open_fits_with : (t u : Attempt) (here there : Stage) → IsOpen here → IsOpen there → IfSome (cause_at there) (Shows u) → PhaseAt here t.ending t.phase → EndingAt here t.ending → GoesOn terms w p t u
      → SafeStage terms w u there → Fits terms w p (at t here) (at u there)
  unfolding EndsSo
  open_fits_with t u here there is_open then_open shown phase ending goes stage =
      let first = open_facts here is_open in
      let second = open_facts there then_open in
      let active : u.phase ≡ Active = goes.phase ∙ first.phase_from t.ending t.phase phase in
      let none : u.ending ≡ None = goes.ending ∙ first.ending_from t.ending ending in
      record {
        alike = alike_open t u here there first second goes.writes goes.ending goes.phase;
        follows = record {
          serial = goes.serial;
          phase = goes.phase;
          prefix = goes.prefix;
          began = first.begun;
          begun = second.begun;
          kept = λ kept. kept_flying here t.ending first.flies;
          undecided = λ kept undecided. rw goes.ending at undecided;
        };
        safe = placed_with terms w p u goes.sound (rw none tt) there second.begun shown (second.phase_to u.ending u.phase active) (second.ending_to u.ending none) stage;
      }

  -- From one open stage to another at which nothing was refused
  pub open_fits : (t u : Attempt) (here there : Stage) → IsOpen here → IsOpen there → IsPlain there → PhaseAt here t.ending t.phase → EndingAt here t.ending → GoesOn terms w p t u → SafeStage terms w u there
      → Fits terms w p (at t here) (at u there)
  open_fits t u here there is_open then_open plain phase ending goes stage = open_fits_with t u here there is_open then_open (plain_cause there (Shows u) plain) phase ending goes stage
