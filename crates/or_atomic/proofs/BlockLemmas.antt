-- A body in a level of its own: the level is refused, kept or undone.
use Rattle.std.proofs.Common.{◌≡◌, ℕ, ◌≤◌, List, [], ◌∷◌, length, Some, None, refl, sym, ap, ◌∙◌, inl, inr, arith}
use Rattle.std.specs.Prelude.{◌≢◌, Option, Result, Ok, Err}
use Rattle.stm_model.specs.declared.cause.Cause.{Cause}
use Rattle.stm_model.specs.declared.cause.Cause.TheVariants.{TooDeep, User}
use Rattle.stm_model.specs.CellsState.{Book, CellsState, restored, undone}
use Rattle.stm_model.specs.Refusing.{RefusesLevel, deepest}
use Rattle.stm_model.specs.Telling.{Enters, Leads, Owing, Refused}
use Rattle.stm_model.specs.Ran.{Running}
use Rattle.stm_model.proofs.CellsLemmas.{restored-going}
use Rattle.stm_model.proofs.RanLemmas.{run_undone}
use Rattle.or_atomic.specs.declared.kept_or_failed.Nested.{Nested}
use Rattle.or_atomic.specs.declared.kept_or_failed.Nested.TheVariants.{Failed}
use Rattle.or_atomic.specs.Blocks.{LevelRefused, NestedLeaves, NestedMeans, OnlyRuns}

-- ---- between states

-- an undone level leaves the book as it was, but for the handlers that ran
pub only_runs : (s e t u : CellsState) → Enters s e → (t.cause ≡ None → t.saved ≡ e.saved) → u ≡ undone t → u.cause ≡ None → OnlyRuns s.now u.now
only_runs s e t u enters saved is none =
    let going : t.cause ≡ None = sym (ap (λ (x : CellsState). x.cause) is) ∙ none in
    let levels : t.saved ≡ s.now ∷ s.saved = saved going ∙ ap (λ (x : CellsState). x.saved) enters.is in
    let now : u.now ≡ restored (s.now ∷ []) t.now = ap (λ (x : CellsState). x.now) is ∙ restored-going t.cause t.saved s.saved t.now s.now going levels in
    now ∙ sym (ap (λ (b : Book). record s.now { runs = b.runs }) now)

refused_again : (cause earlier : Cause) (s t : CellsState) → t ≡ record s { cause = Some cause } → cause ≡ earlier → s.cause ≡ Some earlier → t ≡ s
refused_again cause earlier s t is same before = is ∙ ap (λ (answered : Option Cause). record s { cause = answered }) (ap Some same ∙ sym before)

too_deep : (open_levels : ℕ) (cause : Cause) → deepest ≤ open_levels → RefusesLevel open_levels cause → cause ≡ TooDeep deepest
too_deep open_levels cause most (inl deep) = deep.1
too_deep open_levels cause most (inr (room, is)) = absurd (omega arith)

pub level-refused : {T : Type 0} (cause : Cause) (s t : CellsState) → Refused (RefusesLevel (length s.saved)) cause s t → LevelRefused {T = T} (Err cause) s t
level-refused cause s t refused = record {
  again = λ earlier is. (ap (λ c. Err c) (refused.again earlier is), refused_again cause earlier s t refused.is (refused.again earlier is) is);
  deep = λ none most.
      let is : cause ≡ TooDeep deepest = too_deep (length s.saved) cause most (refused.first none) in
      (ap (λ c. Err c) is, refused.is ∙ ap (λ c. record s { cause = Some c }) is);
}

-- ---- between cells

module _ {S L B T : Type 0} (lawful : L → List ℕ → Type 0) (may : L → List ℕ → List ℕ → Type 0) (law : S → L) (follows : S → S → Type 0) (state : S → CellsState)
    (trans : (c d e : S) → follows c d → follows d e → follows c e)
    (means : B → List ℕ → Book → Result T Cause → Book → B → Type 0) (leaves : B → List ℕ → Book → B → Type 0) (body left : B) where
  -- a run of the body
  abbrev BodyRuns : S → S → Result T Cause → Type 0
  BodyRuns c d answer = Running lawful may law follows state c d (λ heap before answer after. means body heap before answer after left) (λ heap before. leaves body heap before left) answer

  -- a run of the block
  abbrev BlockRuns : S → S → Result (Nested T) Cause → Type 0
  BlockRuns c d answer = Running lawful may law follows state c d (λ heap before answer after. NestedMeans means body heap before answer after left) (λ heap before. NestedLeaves leaves body heap before left) answer

  pub nested_failed : (code : ℕ) (cause : Cause) (c d e f : S) → cause ≡ User code → Owing (lawful (law c)) (may (law c)) (state c)
      → Leads law follows state c d Enters → BodyRuns d e (Err cause)
      → Leads law follows state e f (λ before after. after ≡ undone before) → BlockRuns c f (Ok (Failed code))
  nested_failed code cause c d e f is owing enters ran undo =
      run_undone lawful may law follows state trans _ _ _ _ (Err cause) (Ok (Failed code)) c d e f
      (λ decided. rw is tt) (λ heap book ends. (book, rw is at ends, refl)) (λ heap ends. inr ends) tt owing enters ran undo

  pub nested_ended : (cause : Cause) (c d e f : S) → ((code : ℕ) → cause ≢ User code) → Owing (lawful (law c)) (may (law c)) (state c)
      → Leads law follows state c d Enters → BodyRuns d e (Err cause)
      → Leads law follows state e f (λ before after. after ≡ undone before) → BlockRuns c f (Err cause)
  nested_ended cause c d e f other owing enters ran undo =
      run_undone lawful may law follows state trans _ _ _ _ (Err cause) (Err cause) c d e f
      (λ decided. decided) (λ heap book ends. (other, (book, ends, refl))) (λ heap ends. inr ends) ran.states.causes owing enters ran undo
