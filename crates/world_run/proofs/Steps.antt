-- The attempt after a caller's step, and the words of an access.
use Rattle.std.proofs.Common.{◌≡◌, ℕ, ◌-◌, ◌<◌, ◌≤◌, List, Option, Some, None, IfNone, IfSome, Bool, true, false, ap, sym, ◌∙◌, refl, subst, length, get_or, arith, if◌then◌else◌}
use Rattle.std.proofs.lemmas.Grind.{common_steps}
use Rattle.opacity.specs.Plain.{AreAttempts}
use Rattle.opacity.specs.Words.{IsOfTable, word_found}
use Rattle.opacity.proofs.NextAccess.{fits_next}
use Rattle.opacity.proofs.Places.{attempt_here}
use Rattle.opacity.proofs.WordSteps.{found_word}
use Rattle.stm_core.specs.Machine.{ClockFits, Machine, in_flight}
use Rattle.stm_model.specs.Accesses.{Act, Answer, LoadClock, ExchangeClock, access_of, next, word_of}
use Rattle.stm_model.specs.After.{after, after_found, after_word}
use Rattle.stm_model.specs.Attempt.{Attempt, flies_at, is_in_flight}
use Rattle.stm_model.specs.History.{Entry}
use Rattle.stm_model.specs.Safe.{Safe}
use Rattle.stm_model.specs.Shown.{shown_by}
use Rattle.stm_model.specs.World.{IsCaller, Terms, View, World, attempt_of, found, place_of, step, step_by, view_after, words_after, world_of}
use Rattle.stm_model.specs.declared.settings.Settings.{Settings}
use Rattle.world_run.specs.Simulation.{Simulation, Shows, latest, machine_at, terms_in}

-- what an attempt tells of itself
abbrev pub tells : Machine → Option Attempt
tells machine = in_flight machine.attempt

tells_itself : (t : Attempt) (b : Bool) → IfSome (if b then Some t else None) (λ u. t ≡ u)
tells_itself t true = refl
tells_itself t false = tt

tells_none : (t : Attempt) (b : Bool) → is_in_flight t ≡ b → IfNone (if b then Some t else None) (is_in_flight t ≡ false)
tells_none t true is = tt
tells_none t false is = is

flying : (settings : Settings) (p : ℕ) (machine : Option Machine) → IfSome (shown_by tells machine) (λ t. latest settings p machine ≡ t)
flying settings p None = tt
flying settings p (Some machine) = tells_itself machine.attempt (is_in_flight machine.attempt)

resting : (settings : Settings) (p : ℕ) (machine : Option Machine) → IfNone (shown_by tells machine) (is_in_flight (latest settings p machine) ≡ false)
unfolding flies_at
resting settings p None = refl
resting settings p (Some machine) = tells_none machine.attempt (is_in_flight machine.attempt) refl

module _ {L : Type 0} {lawful : L → List ℕ → Type 0} {may : L → List ℕ → List ℕ → Type 0} {c : Simulation L} {w : World} (shows : Shows lawful may c w) where
  -- the world by the words of the table
  abbrev pub ground : World
  ground = world_of (terms_in c) c.words c.history w.view

  pub ground_safe : Safe (lawful c.law) (may c.law) (terms_in c) ground
  ground_safe = subst (λ (v : World). Safe (lawful c.law) (may c.law) (terms_in c) v) shows.words shows.safe

  own_seat : (p : ℕ) (d : Option Machine) → length c.machines ≡ c.settings.callers → 0 < p → p ≤ c.settings.callers → get_or c.machines (p - 1) d ≡ machine_at c p
  own_seat p d size above within = grind (arith, common_steps, size)

  pub attempts_shown : length c.machines ≡ c.settings.callers → AreAttempts (shown_by tells) c.settings.callers c.machines w.view
  attempts_shown size = record {
    size = size;
    in_flight = λ p d above within. rw (own_seat p d size above within, shows.attempts p (above, within)) (flying c.settings p (machine_at c p));
    at_rest = λ p d above within. rw (own_seat p d size above within, shows.attempts p (above, within)) (resting c.settings p (machine_at c p));
  }

module _ (lawful : List ℕ → Type 0) (may : List ℕ → List ℕ → Type 0) (terms : Terms) (words : List ℕ) (history : List Entry) (view : ℕ → View) (p : ℕ) (act : Act)
    (safe : Safe lawful may terms (world_of terms words history view)) (caller : IsCaller terms p) (is : next (view p).attempt ≡ Some act) where
  abbrev here : World
  here = world_of terms words history view

  pub of_table : IsOfTable terms (word_of (access_of act))
  unfolding world_of
  of_table = (fits_next lawful may terms here p safe caller act is).word

  own_by : (this : Option Act) → this ≡ Some act → attempt_of (step_by here p this) p ≡ after (view p).attempt (found here act)
  unfolding world_of step_by
  own_by None same = cc
  own_by (Some other) same =
      let one : other ≡ act = cc in
      attempt_here (words_after here (view p).attempt other) p (view_after here (view p) other) ∙ ap (λ (each : Act). after (view p).attempt (found here each)) one

  pub own_step : attempt_of (step here p) p ≡ after_word (view p).attempt (word_found terms words (access_of act))
  unfolding world_of
  own_step =
      own_by (next (view p).attempt) is
      ∙ ap (λ (answer : Answer). after (view p).attempt answer) (found_word terms words history view act of_table)
      ∙ sym (ap (λ (this : Option Act). after_found (view p).attempt this (word_found terms words (access_of act))) is)

  clock_within : (limit : ℕ) → limit ≡ terms.limit → get_or words 0 0 ≤ limit
  unfolding world_of
  clock_within limit same = let high : get_or words 0 0 ≤ terms.limit = safe.limit in omega (arith, high, same)

  fits_by : (this : Act) → ClockFits (view p).attempt (Some this) (word_found terms words (access_of this))
  unfolding ClockFits access_of word_of place_of world_of
  fits_by LoadClock = clock_within (view p).attempt.settings.clock (safe.attempts p caller).sound.limit
  fits_by (ExchangeClock old) = clock_within (view p).attempt.settings.clock (safe.attempts p caller).sound.limit
  fits_by this = tt

  pub clock_fits : ClockFits (view p).attempt (next (view p).attempt) (word_found terms words (access_of act))
  clock_fits = rw is (fits_by act)
