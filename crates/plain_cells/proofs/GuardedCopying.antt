-- What a body is that copies a cell in a level of its own, by its calls.
use Rattle.std.proofs.Common.{◌≡◌, ℕ, List, [], ◌∷◌, ◌++◌, get_or, set, refl, ap, ◌∙◌}
use Rattle.std.proofs.Math.Seq.{drop-append_seam}
use Rattle.std.specs.Prelude.{Result, Ok}
use Rattle.stm_model.specs.declared.cause.Cause.{Cause}
use Rattle.stm_model.specs.declared.cause.HookPhase.TheVariants.{Rollback}
use Rattle.stm_model.specs.Heap.{over}
use Rattle.stm_model.specs.CellsState.{Book, CellsState, hooked, kept, restored, undone, written}
use Rattle.stm_model.specs.Telling.{Does, Enters, Leads, Owing, Writing}
use Rattle.stm_model.specs.Ran.{Running}
use Rattle.stm_model.proofs.TellingLemmas.{changed_written}
use Rattle.stm_model.proofs.RanLemmas.{Owes-free, run_kept, run_then, run_undone, run_wrote}
use Rattle.plain_cells.proofs.Counting.{Ran-hooked}

-- a handler for the undoing came in
abbrev Hooked : ℕ → List ℕ → Book → Result (Unit {0}) Cause → Book → Type 0
Hooked token heap before answer after = after ≡ record before { hooks = before.hooks ++ (Rollback, token) ∷ [] }

-- a cell was copied
abbrev Copied : ℕ → ℕ → ℕ → List ℕ → Book → Result ℕ Cause → Book → Type 0
Copied from into value heap before answer after =
    (get_or (over heap before.writes) from 0 ≡ value) × (over heap after.writes ≡ set (over heap before.writes) into value)
    × (after ≡ record before { writes = after.writes })

-- both of them, one after the other
abbrev InLevel : ℕ → ℕ → ℕ → ℕ → List ℕ → Book → Result ℕ Cause → Book → Type 0
InLevel from into value token heap before answer after =
    (get_or (over heap before.writes) from 0 ≡ value) × (over heap after.writes ≡ set (over heap before.writes) into value)
    × (after ≡ record before { writes = after.writes; hooks = before.hooks ++ (Rollback, token) ∷ [] })

-- the level was undone, and its handler ran
abbrev Undone : ℕ → ℕ → ℕ → List ℕ → Book → Result ℕ Cause → Book → Type 0
Undone from value token heap before answer after =
    (get_or (over heap before.writes) from 0 ≡ value) × (after ≡ record before { runs = before.runs ++ (Rollback, token) ∷ [] })

-- the value was written
abbrev Seen : ℕ → ℕ → List ℕ → Book → Result ℕ Cause → Book → Type 0
Seen seen value heap before answer after =
    (answer ≡ Ok value) × (over heap after.writes ≡ set (over heap before.writes) seen value) × (after ≡ record before { writes = after.writes })

in_level : (from into value token : ℕ) (heap : List ℕ) (first second third : Book) (answer : Result ℕ Cause)
    → Hooked token heap first (Ok tt) second → Copied from into value heap second answer third → InLevel from into value token heap first answer third
in_level from into value token heap first second third answer hook copy = rw hook at copy

undone_book : (from into value token : ℕ) (heap : List ℕ) (before after : Book) (answer : Result ℕ Cause)
    → InLevel from into value token heap before answer after → Undone from value token heap before answer (restored (before ∷ []) after)
undone_book from into value token heap before after answer (told, wrote, is) =
    let runs : after.runs ≡ before.runs = ap (λ (b : Book). b.runs) is in
    let hooks : after.hooks ≡ before.hooks ++ (Rollback, token) ∷ [] = ap (λ (b : Book). b.hooks) is in
    (told, rw (runs, hooks, drop-append_seam before.hooks ((Rollback, token) ∷ [])) refl)

-- ---- under a law that allows all

abbrev Whatever : List ℕ → Book → Type 0
Whatever heap before = Unit {0}

module _ {S L : Type 0} (lawful : L → List ℕ → Type 0) (may : L → List ℕ → List ℕ → Type 0) (law : S → L) (follows : S → S → Type 0) (state : S → CellsState)
    (trans : (c d e : S) → follows c d → follows d e → follows c e)
    (all : (l : L) (heap : List ℕ) → lawful l heap) (any : (l : L) (before after : List ℕ) → may l before after) where
  free : (c d : S) → Owing (lawful (law c)) (may (law c)) (state d)
  free c d = λ none. Owes-free (lawful (law c)) (may (law c)) (state d) (all (law c)) (any (law c))

  level_ran : (from into value token : ℕ) (d e f : S) → Leads law follows state d e (Does (hooked Rollback token))
      → Writing lawful law follows state e f (λ before after. (after ≡ set before into value) × (get_or before from 0 ≡ value))
      → Running lawful may law follows state d f (InLevel from into value token) Whatever (Ok value)
  level_ran from into value token d e f hook copy =
      run_then lawful may law follows state trans (Hooked token) Whatever (Copied from into value) Whatever (InLevel from into value token) Whatever tt (Ok value) d e f
      (λ heap first second third. in_level from into value token heap first second third (Ok value)) (λ heap first second one two. tt)
      (Ran-hooked (lawful (law d)) (may (law d)) law follows state (Hooked token) Whatever Rollback token (λ cause. ⊥) (Ok tt) d e (all (law d)) (any (law d)) (λ heap book. refl) (λ heap book. tt) hook)
      (run_wrote lawful may law follows state (Copied from into value) Whatever _ value e f (λ heap writes wrote. (wrote.1, wrote.0, refl)) (λ heap. tt) (free e f) copy)

  seen_ran : (seen value : ℕ) (g h : S) → Leads law follows state g h (Does (written seen value)) → Running lawful may law follows state g h (Seen seen value) Whatever (Ok value)
  seen_ran seen value g h wrote =
      run_wrote lawful may law follows state (Seen seen value) Whatever _ value g h (λ heap writes is. (refl, is, refl)) (λ heap. tt) (free g h)
      (record { same_law = wrote.same_law; goes = wrote.goes; states = changed_written (lawful (law g)) seen value (state g) (state h) wrote.states })

  -- the level was kept
  pub copied_kept : (means : List ℕ → Book → Result ℕ Cause → Book → Type 0) (leaves : List ℕ → Book → Type 0) (from into seen value token : ℕ) (c d e f g h : S)
      → ((heap : List ℕ) (before after : Book) → get_or (over heap before.writes) from 0 ≡ value
      → over heap after.writes ≡ set (set (over heap before.writes) into value) seen value
      → after ≡ record before { writes = after.writes; hooks = before.hooks ++ (Rollback, token) ∷ [] } → means heap before (Ok value) after)
      → ((heap : List ℕ) (before : Book) → leaves heap before)
      → Leads law follows state c d Enters → Leads law follows state d e (Does (hooked Rollback token))
      → Writing lawful law follows state e f (λ before after. (after ≡ set before into value) × (get_or before from 0 ≡ value))
      → Leads law follows state f g (λ before after. after ≡ kept before)
      → Leads law follows state g h (Does (written seen value))
      → Running lawful may law follows state c h means leaves (Ok value)
  copied_kept means leaves from into seen value token c d e f g h so left enter hook copy keep wrote =
      run_then lawful may law follows state trans (InLevel from into value token) Whatever (Seen seen value) Whatever means leaves value (Ok value) c g h
      (λ heap first second third level told. so heap first third level.0 (told.1 ∙ ap (λ words. set words seen value) level.1)
      (told.2 ∙ ap (λ (b : Book). record b { writes = third.writes }) level.2))
      (λ heap first second one two. left heap first)
      (run_kept lawful may law follows state trans (InLevel from into value token) Whatever (InLevel from into value token) Whatever value value c d f g
      (λ heap book is. is) (λ heap one. one) enter (level_ran from into value token d e f hook copy) keep)
      (seen_ran seen value g h wrote)

  -- the level was undone
  pub copied_undone : (means : List ℕ → Book → Result ℕ Cause → Book → Type 0) (leaves : List ℕ → Book → Type 0) (from into seen value token : ℕ) (c d e f g h : S)
      → ((heap : List ℕ) (before after : Book) → get_or (over heap before.writes) from 0 ≡ value
      → over heap after.writes ≡ set (over heap before.writes) seen value
      → after ≡ record before { writes = after.writes; runs = before.runs ++ (Rollback, token) ∷ [] } → means heap before (Ok value) after)
      → ((heap : List ℕ) (before : Book) → leaves heap before)
      → Leads law follows state c d Enters → Leads law follows state d e (Does (hooked Rollback token))
      → Writing lawful law follows state e f (λ before after. (after ≡ set before into value) × (get_or before from 0 ≡ value))
      → Leads law follows state f g (λ before after. after ≡ undone before)
      → Leads law follows state g h (Does (written seen value))
      → Running lawful may law follows state c h means leaves (Ok value)
  copied_undone means leaves from into seen value token c d e f g h so left enter hook copy undo wrote =
      run_then lawful may law follows state trans (Undone from value token) Whatever (Seen seen value) Whatever means leaves value (Ok value) c g h
      (λ heap first second third level told. so heap first third level.0 (told.1 ∙ ap (λ (b : Book). set (over heap b.writes) seen value) level.1)
      (told.2 ∙ ap (λ (b : Book). record b { writes = third.writes }) level.1))
      (λ heap first second one two. left heap first)
      (run_undone lawful may law follows state trans (InLevel from into value token) Whatever (Undone from value token) Whatever (Ok value) (Ok value) c d f g
      (λ decided. decided) (λ heap book. undone_book from into value token heap (state c).now book (Ok value)) (λ heap one. one) tt (free c c)
      enter (level_ran from into value token d e f hook copy) undo)
      (seen_ran seen value g h wrote)
