-- A new entry that meets what is owed keeps the law of heaps.
use Rattle.std.proofs.Common.{◌≡◌, ℕ, suc, ◌≤◌, List, [], ◌∷◌, ◌++◌, length, ◌∙◌, arith, inl, inr}
use Rattle.std.specs.List.{All}
use Rattle.std.proofs.lemmas.Bool.{cases_lt}
use Rattle.std.proofs.lemmas.List.{length_push}
use Rattle.stm_model.specs.Heap.{over}
use Rattle.stm_model.specs.History.{Entry, IsCurrent, IsLegal, state}
use Rattle.stm_model.specs.Owes.{IsPossible, Owes}
use Rattle.stm_model.specs.Safe.{KeepsLaw}
use Rattle.stm_model.proofs.HistoryLemmas.{Agrees-from_current, AreWords-state, length-state, state-append, state_push}

module _ (lawful : List ℕ → Type 0) (may : List ℕ → List ℕ → Type 0) (opening : List ℕ) (history : List Entry) (entry : Entry)
    (legal : IsLegal opening history) (law : KeepsLaw lawful may opening history) (current : All (IsCurrent opening history (length history)) entry.reads)
    (owes : Owes lawful may (length opening) entry.reads entry.writes) where
  abbrev heap : List ℕ
  heap = state opening history (length history)

  possible : IsPossible lawful (length opening) entry.reads heap
  possible = record {
    cells = length-state opening history (length history);
    words = AreWords-state opening history (length history) legal.opening_words legal.entries;
    keeps_law = law.each (length history) (omega arith);
    agrees = Agrees-from_current opening history (length history) entry.reads current;
  }

  keeps : lawful (over heap entry.writes) × may heap (over heap entry.writes)
  keeps = owes heap possible

  state_new : state opening (history ++ entry ∷ []) (suc (length history)) ≡ over heap entry.writes
  state_new = state_push opening history entry

  state_old : (n : ℕ) → n ≤ length history → state opening (history ++ entry ∷ []) n ≡ state opening history n
  state_old n low = state-append opening history (entry ∷ []) n low

  grown : length (history ++ entry ∷ []) ≡ suc (length history)
  grown = length_push history entry ∙ omega arith

  pub KeepsLaw-push : KeepsLaw lawful may opening (history ++ entry ∷ [])
  KeepsLaw-push = record {
    each = λ n within. elim (cases_lt (length history) n) [
      | inl more ↦
          let here : n ≡ suc (length history) = omega (arith, grown) in
          rw (here, state_new) keeps.0
      | inr low ↦ rw (state_old n low) (law.each n low)
    ];
    next = λ n within. elim (cases_lt n (length history)) [
      | inl less ↦ rw (state_old n (omega arith), state_old (suc n) (omega arith)) (law.next n less)
      | inr more ↦
          let here : n ≡ length history = omega (arith, grown) in
          rw (here, state_new, state_old (length history) (omega arith)) keeps.1
    ];
  }
