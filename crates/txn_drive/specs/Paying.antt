-- What an attempt owes before it may exchange the clock.
use Rattle.std.specs.Prelude.{◌≡◌, ℕ, List, Some}
use Rattle.stm_model.specs.Accesses.{ExchangeClock, next}
use Rattle.stm_model.specs.Attempt.{Attempt}
use Rattle.stm_model.specs.HandlerRuns.{Step, led}
use Rattle.stm_model.specs.Owes.{Owes}

-- Some steps lead from the one attempt to the other.
pub record IsLed (before after : Attempt) : Type 0 where
  pub steps : List Step
  pub reach : led before steps ≡ after

-- Wherever its steps lead it, it meets what is owed before it exchanges the clock.
abbrev pub Pays : (List ℕ → Type 0) → (List ℕ → List ℕ → Type 0) → ℕ → Attempt → Type 0
Pays lawful may size t = (later : Attempt) (old : ℕ) → IsLed t later → next later ≡ Some (ExchangeClock old) → Owes lawful may size later.notes later.now.writes
