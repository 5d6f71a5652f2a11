-- A whole transaction without before-commit bodies.
use Rattle.std.proofs.Common.{◌≡◌, ℕ, List, [], refl, sym, subst}
use Rattle.std.specs.Prelude.{Result, Ok}
use Rattle.stm_model.specs.declared.cause.Cause.{Cause}
use Rattle.stm_model.specs.CellsState.{Book, empty_book}
use Rattle.stm_model.specs.Whole.{RunLate, Whole}

module _ {B T : Type 0} (means : B → List ℕ → Book → Result T Cause → Book → B → Type 0)
    (late_means : B → ℕ → List ℕ → Book → Result (Unit {0}) Cause → Book → B → Type 0)
    (body left : B) (heap : List ℕ) (out : T) (after : Book) (nothing : after.laters ≡ []) where
  pub run-of-whole : Whole means late_means body heap out after left → means body heap empty_book (Ok out) after left
  run-of-whole whole =
      let none : RunLate late_means heap [] whole.next whole.book after left = subst (λ tokens. RunLate late_means heap tokens whole.next whole.book after left) nothing whole.lates in
      subst (λ (book : Book). means body heap empty_book (Ok out) book left) (sym none.0)
      (subst (λ (next : B). means body heap empty_book (Ok out) whole.book next) (sym none.1) whole.run)

  pub whole-of-run : means body heap empty_book (Ok out) after left → Whole means late_means body heap out after left
  whole-of-run run = record {
    book = after;
    next = left;
    run = run;
    lates = subst (λ tokens. RunLate late_means heap tokens left after after left) (sym nothing) (refl, refl);
  }
