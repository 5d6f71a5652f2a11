-- Cells of a type, in each lawful heap.
use Rattle.std.proofs.Common.{◌≡◌, ℕ, List, Option, None, ◌∙◌}
use Rattle.std.specs.Map.{values_of}
use Rattle.std.proofs.Math.Logic.{∥∥₁_map}
use Rattle.stm_model.specs.CellsState.{CellsState}
use Rattle.stm_model.specs.Heap.{AreWords, over}
use Rattle.stm_model.specs.Owes.{IsPossible}
use Rattle.stm_model.specs.Telling.{StaysLawful, Witness}
use Rattle.stm_model.proofs.HeapLemmas.{AreWords-over, length-over}
use Rattle.stm_model.proofs.TellingLemmas.{Moments, Read}
use Rattle.ref_views.specs.Typed.{CanHold, Holds, HoldsWordOf, IsCellOf}
use Rattle.ref_views.proofs.Holding.{read_may_hold}

pub holds_lawful : {T : Type 0} (value_of : ℕ → Option T) (lawful : List ℕ → Type 0) (address : ℕ) (s : CellsState)
    → IsCellOf value_of lawful s.size address → AreWords (values_of s.now.writes) → StaysLawful lawful s → HoldsWordOf value_of lawful address s
holds_lawful value_of lawful address s cell words stays = record {
  within = cell.within;
  holds = λ none heap possible. cell.holds (over heap s.now.writes) (length-over heap s.now.writes ∙ possible.cells)
      (AreWords-over heap s.now.writes possible.words words) (stays none heap possible);
}

-- what was read may be there in some lawful heap
pub read_can_hold : {S L T : Type 0} (m : Moments S L) (value_of : ℕ → Option T) (c d : S) (address : ℕ) (value : T)
    → ∥ Witness (m.lawful (m.law d)) (m.state d).size (m.state d).reads ∥₁ → AreWords (values_of (m.state c).now.writes)
    → (m.state c).cause ≡ None → StaysLawful (m.lawful (m.law c)) (m.state c) → Read m c d (Holds value_of address value)
    → CanHold value_of (m.lawful (m.law c)) (m.state c).size address value
read_can_hold m value_of c d address value witness words going stays p =
    ∥∥₁_map (read_may_hold m value_of c d address value witness p)
    (λ (w : (heap : List ℕ) × IsPossible (m.lawful (m.law c)) (m.state c).size (m.state c).reads heap × Holds value_of address value (over heap (m.state c).now.writes)).
    (over w.0 (m.state c).now.writes, length-over w.0 (m.state c).now.writes ∙ w.1.cells, AreWords-over w.0 (m.state c).now.writes w.1.words words, stays going w.0 w.1, w.2))
