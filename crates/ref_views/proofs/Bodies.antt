-- Bodies that are calls on typed cells: where they are cut short, and what they leave.
use Rattle.std.proofs.Common.{◌≡◌, ℕ, List, length, Some, Option, None, sym, ap, ◌∙◌, inl, inr, arith}
use Rattle.std.specs.Prelude.{Result, Err, Ok, ◌⊎◌}
use Rattle.stm_model.specs.declared.cause.Cause.{Cause}
use Rattle.stm_model.specs.CellsState.{Book, CellsState}
use Rattle.stm_model.specs.Owes.{IsPossible}
use Rattle.stm_model.specs.Ran.{Ran, Running}
use Rattle.stm_model.specs.Heap.{over}
use Rattle.stm_model.specs.Telling.{Cut, Extends, Leads, Learned, Owing, Writing}
use Rattle.stm_model.proofs.CellsLemmas.{IsPossible-before}
use Rattle.stm_model.proofs.RanLemmas.{Ran-wrote}
use Rattle.ref_views.specs.Typed.{Held, Holds}

pub Ran-cut : {T : Type 0} (lawful : List ℕ → Type 0) (may : List ℕ → List ℕ → Type 0)
    (means : List ℕ → Book → Result T Cause → Book → Type 0) (leaves : List ℕ → Book → Type 0) (cause : Cause) (s t : CellsState)
    → ((heap : List ℕ) → IsPossible lawful s.size t.reads heap → leaves heap s.now)
    → Cut cause s t → Ran {T = T} lawful may means leaves (Err cause) s t
Ran-cut lawful may means leaves cause s t left cut = record {
  size = cut.size;
  reads = cut.reads;
  saved = λ none. cut.saved;
  levels = let same : length t.saved ≡ length s.saved = ap length cut.saved in omega arith;
  grows = λ none. let never : Some cause ≡ None = sym cut.stopped ∙ none in cc;
  whole = λ none. let never : Some cause ≡ None = sym cut.stopped ∙ none in cc;
  left = left;
  owes = λ none. let never : Some cause ≡ None = sym cut.stopped ∙ none in cc;
  causes = inr cut.stopped;
  again = λ earlier is. cut.stopped ∙ ap Some (cut.again earlier is);
}

pub run_stopped : {S L T : Type 0} (lawful : List ℕ → Type 0) (may : List ℕ → List ℕ → Type 0) (law : S → L) (follows : S → S → Type 0) (state : S → CellsState)
    (means : List ℕ → Book → Result T Cause → Book → Type 0) (leaves : List ℕ → Book → Type 0) (cause : Cause) (c d : S)
    → ((heap : List ℕ) → IsPossible lawful (state c).size (state d).reads heap → leaves heap (state c).now)
    → Leads law follows state c d (Cut cause) → Leads law follows state c d (Ran {T = T} lawful may means leaves (Err cause))
run_stopped lawful may law follows state means leaves cause c d left p =
    record { same_law = p.same_law; goes = p.goes; states = Ran-cut lawful may means leaves cause (state c) (state d) left p.states }

-- what a run leaves has to be told of possible heaps alone
pub Ran-left : {T : Type 0} (lawful : List ℕ → Type 0) (may : List ℕ → List ℕ → Type 0)
    (means : List ℕ → Book → Result T Cause → Book → Type 0) (leaves other : List ℕ → Book → Type 0) (answer : Result T Cause) (s t : CellsState)
    → ((heap : List ℕ) → IsPossible lawful s.size t.reads heap → leaves heap s.now)
    → Ran {T = T} lawful may means other answer s t → Ran {T = T} lawful may means leaves answer s t
Ran-left lawful may means leaves other answer s t left ran = record {
  size = ran.size;
  reads = ran.reads;
  saved = ran.saved;
  levels = ran.levels;
  grows = ran.grows;
  whole = ran.whole;
  left = left;
  owes = ran.owes;
  causes = ran.causes;
  again = ran.again;
}

-- a body that only reads and writes
pub run_ended : {S L T : Type 0} (lawful : L → List ℕ → Type 0) (may : L → List ℕ → List ℕ → Type 0) (law : S → L) (follows : S → S → Type 0) (state : S → CellsState)
    (means : List ℕ → Book → Result T Cause → Book → Type 0) (leaves : List ℕ → Book → Type 0)
    (step : List ℕ → List ℕ → Type 0) (out : T) (c d : S)
    → ((heap : List ℕ) (writes : List (ℕ × ℕ)) → step (over heap (state c).now.writes) (over heap writes) → means heap (state c).now (Ok out) (record (state c).now { writes = writes }))
    → ((heap : List ℕ) → IsPossible (lawful (law c)) (state c).size (state d).reads heap → leaves heap (state c).now)
    → Owing (lawful (law c)) (may (law c)) (state d)
    → Writing lawful law follows state c d step → Running lawful may law follows state c d means leaves (Ok out)
run_ended lawful may law follows state means leaves step out c d so left owing p = record {
  same_law = p.same_law;
  goes = p.goes;
  states = Ran-left (lawful (law c)) (may (law c)) means leaves (λ heap book. Unit {0}) (Ok out) (state c) (state d) left
      (Ran-wrote (lawful (law c)) (may (law c)) means (λ heap book. Unit {0}) step out (state c) (state d) so (λ heap. tt) owing p.states);
}

-- on a possible heap, the closure was called at most once, on the value of the cell there
pub calls_there : {F T Z : Type 0} (step : T → Z → Type 0) (value_of : ℕ → Option T) (lawful : List ℕ → Type 0) (address : ℕ) (s t : CellsState) (f left : F) (heap : List ℕ)
    → IsPossible lawful s.size t.reads heap → (left ≡ f) ⊎ ((former : T) × (made : Z) × step former made × Held value_of lawful address former s t)
    → (left ≡ f) ⊎ ((former : T) × (made : Z) × step former made × Holds value_of address former (over heap s.now.writes))
calls_there step value_of lawful address s t f left heap possible (inl same) = inl same
calls_there step value_of lawful address s t f left heap possible (inr called) = inr (called.0, called.1, called.2, called.3 heap possible)

-- what was learned is so in each heap that is still possible later
pub learned_there : (lawful : List ℕ → Type 0) (fact : List ℕ → Type 0) (s t u : CellsState) (heap : List ℕ)
    → Learned lawful fact s t → Extends t.reads u.reads → IsPossible lawful s.size u.reads heap → fact (over heap s.now.writes)
learned_there lawful fact s t u heap learned more possible = learned.each heap (IsPossible-before lawful s.size t.reads u.reads heap more possible)
