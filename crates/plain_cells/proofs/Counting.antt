-- What a body that counts a cell up is, by its calls.
use Rattle.std.proofs.Common.{◌≡◌, ℕ, ◌+◌, List, [], ◌∷◌, ◌++◌, get_or, sym, ap, subst, ◌∙◌}
use Rattle.std.specs.Prelude.{Result, Ok, Err, MatchResult}
use Rattle.stm_model.specs.declared.cause.Cause.{Cause}
use Rattle.stm_model.specs.declared.cause.HookPhase.{HookPhase}
use Rattle.stm_model.specs.Heap.{over, put}
use Rattle.stm_model.specs.CellsState.{Book, CellsState, written, late_registered, hooked}
use Rattle.stm_model.specs.Telling.{Does, Extends, Got, Leads, Refused}
use Rattle.stm_model.specs.Ran.{Grows, Ran}
use Rattle.stm_model.proofs.CellsLemmas.{Extends-refl, Extends-append}
use Rattle.stm_model.proofs.TellingLemmas.{learned_got}
use Rattle.stm_model.proofs.RanLemmas.{Owes-free, Ran-calls, Ran-refused}

-- a read, a write and a before-commit body
pub Ran-counted : (lawful : List ℕ → Type 0) (may : List ℕ → List ℕ → Type 0)
    (means : List ℕ → Book → Result ℕ Cause → Book → Type 0) (leaves : List ℕ → Book → Type 0)
    (address value : ℕ) (s m n t : CellsState)
    → ((heap : List ℕ) → lawful heap) → ((before after : List ℕ) → may before after)
    → ((heap : List ℕ) (book : Book) → get_or (over heap book.writes) address 0 ≡ value
    → means heap book (Ok value) (record book { writes = put book.writes address (value + 1); laters = book.laters ++ value ∷ [] }))
    → ((heap : List ℕ) (book : Book) → leaves heap book)
    → Got lawful address value s m → Does (written address (value + 1)) m n → Does (late_registered value) n t
    → Ran lawful may means leaves (Ok value) s t
Ran-counted lawful may means leaves address value s m n t all any so left got wrote put_off =
    let is : t ≡ late_registered value (written address (value + 1) (record s { reads = m.reads })) =
    put_off.is ∙ ap (late_registered value) (wrote.is ∙ ap (written address (value + 1)) got.only_reads) in
    let reads : Extends s.reads t.reads = rw is ((learned_got lawful address value s m got).reads) in
    let now : t.now ≡ record s.now { writes = put s.now.writes address (value + 1); laters = s.now.laters ++ value ∷ [] } = ap (λ (x : CellsState). x.now) is in
    Ran-calls lawful may means leaves value s t got.going (ap (λ (x : CellsState). x.size) is) reads (ap (λ (x : CellsState). x.saved) is)
    (subst (λ book. Grows s.now book) (sym now) (record {
      hooks = Extends-refl s.now.hooks;
      laters = Extends-append s.now.laters (value ∷ []);
      runs = Extends-refl s.now.runs;
    }))
    (λ heap possible. subst (λ book. means heap s.now (Ok value) book) (sym now)
    (so heap s.now (got.told heap (rw (ap (λ (x : CellsState). x.reads) is) at possible))))
    (λ heap. left heap s.now)
    (Owes-free lawful may t all any)

-- a handler registered, or not
pub Ran-hooked : {S L : Type 0} (lawful : List ℕ → Type 0) (may : List ℕ → List ℕ → Type 0) (law : S → L) (follows : S → S → Type 0) (state : S → CellsState)
    (means : List ℕ → Book → Result (Unit {0}) Cause → Book → Type 0) (leaves : List ℕ → Book → Type 0)
    (phase : HookPhase) (token : ℕ) (fresh : Cause → Type 0) (answer : Result (Unit {0}) Cause) (c d : S)
    → ((heap : List ℕ) → lawful heap) → ((before after : List ℕ) → may before after)
    → ((heap : List ℕ) (book : Book) → means heap book (Ok tt) (record book { hooks = book.hooks ++ (phase, token) ∷ [] }))
    → ((heap : List ℕ) (book : Book) → leaves heap book)
    → MatchResult answer (λ out. Leads law follows state c d (Does (hooked phase token))) (λ cause. Leads law follows state c d (Refused fresh cause))
    → Leads law follows state c d (Ran lawful may means leaves answer)
Ran-hooked lawful may law follows state means leaves phase token fresh (Ok out) c d all any so left told =
    let s = state c in
    let t = state d in
    let is : t ≡ hooked phase token s = told.states.is in
    let now : t.now ≡ record s.now { hooks = s.now.hooks ++ (phase, token) ∷ [] } = ap (λ (x : CellsState). x.now) is in
    record {
      same_law = told.same_law;
      goes = told.goes;
      states =
          Ran-calls lawful may means leaves tt s t told.states.going (ap (λ (x : CellsState). x.size) is)
          (subst (λ notes. Extends s.reads notes) (sym (ap (λ (x : CellsState). x.reads) is)) (Extends-refl s.reads)) (ap (λ (x : CellsState). x.saved) is)
          (subst (λ book. Grows s.now book) (sym now) (record {
            hooks = Extends-append s.now.hooks ((phase, token) ∷ []);
            laters = Extends-refl s.now.laters;
            runs = Extends-refl s.now.runs;
          }))
          (λ heap possible. subst (λ book. means heap s.now (Ok tt) book) (sym now) (so heap s.now))
          (λ heap. left heap s.now)
          (Owes-free lawful may t all any);
    }
Ran-hooked lawful may law follows state means leaves phase token fresh (Err cause) c d all any so left told =
    record { same_law = told.same_law; goes = told.goes; states = Ran-refused lawful may means leaves fresh cause (state c) (state d) left told.states }
