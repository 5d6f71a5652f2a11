-- A world opens safe.
use Rattle.std.proofs.Common.{◌≡◌, ℕ, ◌<◌, inl, false, nat_eq, List, refl, arith}
use Rattle.std.proofs.lemmas.Bool.Decides.{nat_tests}
use Rattle.std.proofs.lemmas.List.Elements.{All-nil}
use Rattle.std.specs.List.{IsDistinct}
use Rattle.stm_model.specs.declared.settings.Settings.{Settings}
use Rattle.stm_model.specs.Attempt.{cause_at, held_at}
use Rattle.stm_model.specs.History.{IsEntry, state, last}
use Rattle.stm_model.specs.Safe.{Safe, SafeAttempt, SafeCell, SafeStage, TermsFit, PhaseAt, EndingAt, EndsSo, SerialAt}
use Rattle.stm_model.specs.World.{Terms, attempt_of, opened}
use Rattle.opacity.proofs.Stands.{blank_sound}

nobody_holds : (p : ℕ) → 0 < p → false ≡ nat_eq p 0
nobody_holds p above = grind (arith, nat_tests)

module _ (terms : Terms) (settings : Settings) where
  cell_opened : (cell : ℕ) → SafeCell terms (opened terms settings) cell
  unfolding held_at state last
  cell_opened cell = record {
    owner = λ p above. nobody_holds p above;
    changing = refl;
    settled = λ none. record { version = refl; value = refl };
    written = λ some. absurd (omega arith);
  }

  attempt_opened : settings.clock ≡ terms.limit → (p : ℕ) → SafeAttempt terms (opened terms settings) p (attempt_of (opened terms settings) p)
  unfolding SafeStage PhaseAt EndingAt EndsSo IsDistinct cause_at
  attempt_opened limit p =
      let w = opened terms settings in
      record { sound = blank_sound terms w p 0 settings.clock (omega arith) limit; phase = refl; ending = tt; ends_so = tt; refused = tt; stage = tt }

  pub opened_safe : (lawful : List ℕ → Type 0) (may : List ℕ → List ℕ → Type 0) → TermsFit terms → settings.clock ≡ terms.limit → lawful terms.opening
      → Safe lawful may terms (opened terms settings)
  unfolding state SerialAt
  opened_safe lawful may fits limit opens = record {
    fits = fits;
    clock = refl;
    limit = omega arith;
    legal = record { opening_words = fits.words; entries = All-nil IsEntry; reads = λ n within. absurd (omega arith) };
    law = record { each = λ n within. let none : n ≡ 0 = omega arith in rw none opens; next = λ n within. absurd (omega arith) };
    callers = record {
      callers = λ n within. absurd (omega arith);
      seen = λ n within. absurd (omega arith);
      ascend = λ m n before within same. absurd (omega arith);
      latest = λ n within. absurd (omega arith);
      undecided = λ n p within same flies none. absurd (omega arith);
    };
    cells = λ cell within. cell_opened cell;
    attempts = λ p caller. attempt_opened limit p;
    views = λ p caller. record { seen = omega arith; since = omega arith; clock = omega arith; fresh = λ begun flies. omega arith };
    statuses = λ p caller. record { serial = refl; phase = inl refl };
    nobody = λ p none. record { stage = refl; stamp = refl; empty = refl };
  }
