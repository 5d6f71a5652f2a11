-- How a simulation opens.
use Rattle.std.proofs.Common.{◌≡◌, ℕ, ◌-◌, ◌≤◌, List, [], Option, None, ap, sym, subst, get_or, length}
use Rattle.meta_word.specs.declared.status.TheConstants.{MAX_SERIAL}
use Rattle.stm_core.specs.Machine.{Machine, SettingsFit}
use Rattle.stm_model.specs.Attempt.{no_attempt}
use Rattle.stm_model.specs.Safe.{Safe}
use Rattle.stm_model.specs.World.{World, opened, world_of}
use Rattle.world_run.specs.Simulation.{Simulation, Invariant, Shows, attempt_in, latest, terms_in}

module _ {L : Type 0} (lawful : L → List ℕ → Type 0) (may : L → List ℕ → List ℕ → Type 0) (c : Simulation L)
    (nobody : (index : ℕ) → get_or c.machines index None ≡ None) (none : c.history ≡ [])
    (opens : world_of (terms_in c) c.words [] (opened (terms_in c) c.settings).view ≡ opened (terms_in c) c.settings)
    (safe : Safe (lawful c.law) (may c.law) (terms_in c) (world_of (terms_in c) c.words [] (opened (terms_in c) c.settings).view)) where
  resting : (p : ℕ) → no_attempt p c.settings ≡ attempt_in c p
  resting p = ap (λ (machine : Option Machine). latest c.settings p machine) (sym (nobody (p - 1)))

  pub opened_shows : Shows lawful may c (opened (terms_in c) c.settings)
  opened_shows = record {
    words = rw none (sym opens);
    attempts = λ p caller. resting p;
    safe = subst (λ (w : World). Safe (lawful c.law) (may c.law) (terms_in c) w) opens safe;
  }

  pub opened_whole : length c.machines ≡ c.settings.callers → SettingsFit c.settings → c.settings.attempts ≤ MAX_SERIAL → Invariant lawful may c
  opened_whole size fits attempts = record {
    size = size;
    fits = fits;
    attempts = attempts;
    world = opened (terms_in c) c.settings;
    shows = opened_shows;
  }
