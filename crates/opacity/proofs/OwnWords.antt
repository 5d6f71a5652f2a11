-- Accesses after which status words and one caller's view are others, and no more.
use Rattle.std.proofs.Common.{◌≡◌, ◌≢◌, ℕ, List, refl, sym, inl, subst}
use Rattle.meta_word.specs.declared.status.TxnStatus.{TxnStatus}
use Rattle.stm_model.specs.After.{at}
use Rattle.stm_model.specs.Attempt.{Stage}
use Rattle.stm_model.specs.Safe.{Safe}
use Rattle.stm_model.specs.World.{IsCaller, Terms, View, World, attempt_of}
use Rattle.opacity.proofs.Cells.{AlikeAt, same_of}
use Rattle.opacity.proofs.Fits.{Fits}
use Rattle.opacity.proofs.Stands.{Knows, own_follows}
use Rattle.opacity.proofs.Whole.{KeepsWord, OwnSafe, others_else, own_here, quiet, safe_moved}

module _ (lawful : List ℕ → Type 0) (may : List ℕ → List ℕ → Type 0) (terms : Terms) (w : World) (p : ℕ) (safe : Safe lawful may terms w) (caller : IsCaller terms p)
    (status : ℕ → TxnStatus) (x : View) where
  -- The caller's view is safe with its word, and other callers' words stay, or doom an attempt that was active.
  pub safe_words : (stage : Stage) → (attempt_of w p).stage ≡ stage → ((cell : ℕ) → AlikeAt cell x.attempt (at (attempt_of w p) stage)) → ((q : ℕ) → q ≢ p → KeepsWord (w.status q) (status q))
      → OwnSafe terms w p x (status p) → Safe lawful may terms (quiet w w.meta w.value status p x)
  safe_words stage is alike words own =
      let here = λ (cell : ℕ). subst (λ (s : Stage). AlikeAt cell x.attempt (at (attempt_of w p) s)) (sym is) (alike cell) in
      safe_moved lawful may terms w w.meta w.value status p x safe caller
      (λ cell within. inl (same_of terms w (quiet w w.meta w.value status p x) p cell (safe.cells cell within) caller.0 (others_else lawful may terms w w.meta w.value status p x safe caller)
      (rw (own_here lawful may terms w w.meta w.value status p x safe caller) (here cell)) refl refl refl refl))
      words own

  -- The caller's own word stays, and its attempt goes on.
  pub safe_others : (stage : Stage) → (attempt_of w p).stage ≡ stage → Fits terms w p (at (attempt_of w p) stage) x.attempt → Knows w (w.view p) x → ((q : ℕ) → q ≢ p → KeepsWord (w.status q) (status q))
      → status p ≡ w.status p → Safe lawful may terms (quiet w w.meta w.value status p x)
  safe_others stage is fits knows words same =
      let here : Fits terms w p (attempt_of w p) x.attempt = subst (λ (s : Stage). Fits terms w p (at (attempt_of w p) s) x.attempt) (sym is) fits in
      safe_words stage is fits.alike words
      (subst (λ (word : TxnStatus). OwnSafe terms w p x word) (sym same)
      (own_follows terms w p (attempt_of w p) x refl (safe.views p caller.1) (safe.statuses p caller) (λ n within at. safe.callers.undecided n p within at) knows here.follows here.safe))
