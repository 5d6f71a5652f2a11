-- Bodies that only read and write, under the law that allows everything.
use Rattle.std.proofs.Common.{◌≡◌, ℕ, List, length, Some, None, sym, ap, ◌∙◌, inr, arith}
use Rattle.std.specs.Prelude.{Result, Err, Ok, MatchResult}
use Rattle.stm_model.specs.declared.cause.Cause.{Cause}
use Rattle.stm_model.specs.CellsState.{Book, CellsState}
use Rattle.stm_model.specs.Heap.{over}
use Rattle.stm_model.specs.Ran.{Ran, Running}
use Rattle.stm_model.specs.Telling.{Cut, Stopping, Writing}
use Rattle.stm_model.proofs.RanLemmas.{Owes-free, Ran-wrote}

-- a body that cells stopped
cut_ran : {T : Type 0} (lawful : List ℕ → Type 0) (may : List ℕ → List ℕ → Type 0)
    (means : List ℕ → Book → Result T Cause → Book → Type 0) (leaves : List ℕ → Book → Type 0) (cause : Cause) (s t : CellsState)
    → ((heap : List ℕ) → leaves heap s.now)
    → Cut cause s t → Ran {T = T} lawful may means leaves (Err cause) s t
cut_ran lawful may means leaves cause s t left cut =
    let never : t.cause ≡ None → ⊥ = λ none. let bad : Some cause ≡ None = sym cut.stopped ∙ none in cc in
    record {
      size = cut.size;
      reads = cut.reads;
      saved = λ none. cut.saved;
      levels = let same : length t.saved ≡ length s.saved = ap length cut.saved in omega arith;
      grows = λ none. absurd (never none);
      whole = λ none. absurd (never none);
      left = λ heap possible. left heap;
      owes = λ none. absurd (never none);
      causes = inr cut.stopped;
      again = λ earlier is. cut.stopped ∙ ap Some (cut.again earlier is);
    }

-- what a body is whose calls told this
pub told_ran : {S L T : Type 0} (lawful : L → List ℕ → Type 0) (may : L → List ℕ → List ℕ → Type 0) (law : S → L) (follows : S → S → Type 0) (state : S → CellsState)
    (means : List ℕ → Book → Result T Cause → Book → Type 0) (leaves : List ℕ → Book → Type 0) (step : T → List ℕ → List ℕ → Type 0) (answer : Result T Cause) (c d : S)
    → ((l : L) (heap : List ℕ) → lawful l heap) → ((l : L) (before after : List ℕ) → may l before after)
    → ((out : T) (heap : List ℕ) (writes : List (ℕ × ℕ)) → step out (over heap (state c).now.writes) (over heap writes) → means heap (state c).now (Ok out) (record (state c).now { writes = writes }))
    → ((heap : List ℕ) → leaves heap (state c).now)
    → MatchResult answer (λ out. Writing lawful law follows state c d (step out)) (λ cause. Stopping law follows state c d cause)
    → Running lawful may law follows state c d means leaves answer
told_ran lawful may law follows state means leaves step (Ok out) c d all any so left p = record {
  same_law = p.same_law;
  goes = p.goes;
  states = Ran-wrote (lawful (law c)) (may (law c)) means leaves (step out) out (state c) (state d) (so out) left
      (λ none. Owes-free (lawful (law c)) (may (law c)) (state d) (all (law c)) (any (law c))) p.states;
}
told_ran lawful may law follows state means leaves step (Err cause) c d all any so left p = record {
  same_law = p.same_law;
  goes = p.goes;
  states = cut_ran (lawful (law c)) (may (law c)) means leaves cause (state c) (state d) left p.states;
}
