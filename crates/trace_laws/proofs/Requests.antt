-- A script goes on: what each of its requests, and each print, leaves.
use Rattle.std.proofs.Common.{◌≡◌, ℕ, suc, ◌^◌, ◌<◌, List, [], ◌∷◌, ◌++◌, length, get_or, take, sym, ap, subst, ◌∙◌, arith, length-append}
use Rattle.std.proofs.lemmas.List.{length-take-le}
use Rattle.std.proofs.Math.Seq.{take-length}
use Rattle.stm_model.specs.declared.access.Ask.TheVariants.{Get, Set, Enter, Keep, Undo, Hook, Later}
use Rattle.stm_model.specs.declared.cause.Addr.{Addr}
use Rattle.stm_model.specs.declared.cause.HookPhase.{HookPhase}
use Rattle.stm_model.specs.declared.note.Note.{Note}
use Rattle.stm_model.specs.Attempt.{Attempt}
use Rattle.stm_model.specs.CellsState.{Book, outer, restored}
use Rattle.stm_model.specs.Heap.{Agrees, over, put}
use Rattle.ledger_model.specs.declared.job.Contents.{Contents}
use Rattle.ledger_model.specs.declared.script.Statement.{Statement}
use Rattle.ledger_model.specs.Heard.{Undoable, hear}
use Rattle.ledger_model.specs.Talk.{Talk, Says, Asks}
use Rattle.ledger_model.specs.Traced.{Progress, asked, said}
use Rattle.trace_laws.proofs.Told.{GoesOn, GoesOnHere, hearing_on, saved_on, undoable_on}
use Rattle.trace_laws.proofs.Acquires.{put_heard}
use Rattle.trace_laws.proofs.Releases.{undue_then}
use Rattle.trace_laws.proofs.Levels.{laters-outer, length-outer, nest-drop, nest-more, saved-outer, saved-said, saved-taken}

module _ (base : Contents) (block : List Statement) where
  -- ---- where an attempt waits

  pub from_here : (t : Attempt) (this : Talk) (g : Progress) → t.due ≡ [] → GoesOnHere base block t this g → GoesOn base block t this t.now t.saved g
  from_here t this g none goes = subst (λ (now : Book). GoesOn base block t this now t.saved g) (undue_then t none) goes

  pub to_here : (t : Attempt) (this : Talk) (g : Progress) → t.due ≡ [] → GoesOn base block t this t.now t.saved g → GoesOnHere base block t this g
  to_here t this g none goes = subst (λ (now : Book). GoesOn base block t this now t.saved g) (sym (undue_then t none)) goes

  -- of an attempt with the same notes that has come to the same body
  pub of_attempt : (t u : Attempt) (this : Talk) (now : Book) (saved : List Book) (g : Progress) (rest : ℕ → Talk) → u.notes ≡ t.notes → u.turn ≡ t.turn
      → GoesOn base block t this now saved g → GoesOn base block u this now saved (record g { rest = rest })
  of_attempt t u this now saved g rest notes turn goes = record {
    comes = λ heap long agrees. goes.comes heap long (subst (λ (list : List Note). Agrees list heap) notes agrees);
    allowed = rw turn goes.allowed;
    levels = record { as_many = goes.levels.as_many; nest = goes.levels.nest };
  }

  -- It has come to this attempt, which waits likewise.
  pub arrives : (t next : Attempt) (this : Talk) (g : Progress) (rest : ℕ → Talk) → next.due ≡ [] → next.notes ≡ t.notes → next.turn ≡ t.turn
      → GoesOn base block t this next.now next.saved g → GoesOnHere base block next this (record g { rest = rest })
  arrives t next this g rest none notes turn goes =
      to_here next this (record g { rest = rest }) none (of_attempt t next this next.now next.saved g rest notes turn goes)

  module _ (t : Attempt) (now : Book) (saved : List Book) (g : Progress) where
    -- ---- it prints

    pub says : (n : ℕ) (rest : Talk) → GoesOn base block t (Says n rest) now saved g → GoesOn base block t rest now saved (said n g)
    says n rest goes = record {
      comes = λ heap long agrees.
          goes.comes heap long agrees
          ∙ ap (λ levels. hear rest (record (hearing_on base heap now saved (said n g)) { saved = levels })) (saved-said base heap g.prints (n ∷ []) saved g.saved goes.levels.nest);
      allowed = goes.allowed.1;
      levels = record {
        as_many = goes.levels.as_many;
        nest = nest-more (length g.prints) (length (g.prints ++ n ∷ [])) g.saved (omega (arith, length-append g.prints (n ∷ []))) goes.levels.nest;
      };
    }

    -- ---- it asks

    pub told : (cell : Addr) (rest : ℕ → Talk) (value : ℕ) → value < 2 ^ 64
        → ((heap : List ℕ) → length heap ≡ length base.refs → Agrees t.notes heap → get_or (over heap now.writes) cell.0 0 ≡ value)
        → GoesOn base block t (Asks (Get cell) rest) now saved g → GoesOn base block t (rest value) now saved (asked (Get cell) rest g)
    told cell rest value word holds goes = record {
      comes = λ heap long agrees. goes.comes heap long agrees ∙ ap (λ answer. hear (rest answer) (hearing_on base heap now saved g)) (holds heap long agrees);
      allowed = goes.allowed.1 value word;
      levels = record { as_many = goes.levels.as_many; nest = goes.levels.nest };
    }

    pub written : (cell : Addr) (value : ℕ) (rest : ℕ → Talk)
        → GoesOn base block t (Asks (Set cell value) rest) now saved g
        → GoesOn base block t (rest 0) (record now { writes = put now.writes cell.0 value }) saved (asked (Set cell value) rest g)
    written cell value rest goes = record {
      comes = λ heap long agrees.
          goes.comes heap long agrees ∙ ap (λ (here : Undoable). hear (rest 0) (record (hearing_on base heap now saved g) { now = here })) (put_heard base heap now g.prints cell.0 value);
      allowed = goes.allowed.1 0 (omega arith);
      levels = record { as_many = goes.levels.as_many; nest = goes.levels.nest };
    }

    pub entered : (rest : ℕ → Talk) → GoesOn base block t (Asks Enter rest) now saved g → GoesOn base block t (rest 0) now (now ∷ saved) (asked Enter rest g)
    entered rest goes = record {
      comes = λ heap long agrees.
          goes.comes heap long agrees
          ∙ ap (λ prints. hear (rest 0) (record (hearing_on base heap now saved g) { saved = undoable_on base heap now prints ∷ saved_on base heap g.prints saved g.saved })) (sym (take-length g.prints));
      allowed = goes.allowed.1 0 (omega arith);
      levels = record { as_many = ap (λ n. suc n) goes.levels.as_many; nest = (omega arith, goes.levels.nest) };
    }

    pub kept : (rest : ℕ → Talk) → GoesOn base block t (Asks Keep rest) now saved g → GoesOn base block t (rest 0) now (outer saved) (asked Keep rest g)
    kept rest goes = record {
      comes = λ heap long agrees.
          goes.comes heap long agrees
          ∙ ap (λ levels. hear (rest 0) (record (hearing_on base heap now saved g) { saved = levels })) (saved-outer base heap g.prints saved g.saved goes.levels.as_many);
      allowed = rw (← laters-outer saved) (goes.allowed.1 0 (omega arith));
      levels = record { as_many = length-outer saved g.saved goes.levels.as_many; nest = nest-drop (length g.prints) g.saved goes.levels.nest };
    }

    pub hooked : (phase : HookPhase) (token : ℕ) (rest : ℕ → Talk)
        → GoesOn base block t (Asks (Hook phase token) rest) now saved g
        → GoesOn base block t (rest 0) (record now { hooks = now.hooks ++ (phase, token) ∷ [] }) saved (asked (Hook phase token) rest g)
    hooked phase token rest goes = record {
      comes = goes.comes;
      allowed = goes.allowed.1 0 (omega arith);
      levels = record { as_many = goes.levels.as_many; nest = goes.levels.nest };
    }

    pub registered : (token : ℕ) (rest : ℕ → Talk)
        → GoesOn base block t (Asks (Later token) rest) now saved g
        → GoesOn base block t (rest 0) (record now { laters = now.laters ++ token ∷ [] }) saved (asked (Later token) rest g)
    registered token rest goes =
        let one : length (now.laters ++ token ∷ []) ≡ suc (length now.laters) = omega (arith, length-append now.laters (token ∷ [])) in
        record {
          comes = goes.comes;
          allowed = rw one (goes.allowed.1 0 (omega arith));
          levels = record { as_many = goes.levels.as_many; nest = goes.levels.nest };
        }

  -- ---- it undoes a level

  undone_from : (t : Attempt) (now : Book) (saved : List Book) (counts : List ℕ) (g : Progress) (rest : ℕ → Talk) → 0 < length saved
      → GoesOn base block t (Asks Undo rest) now saved (record g { saved = counts }) → GoesOn base block t (rest 0) (restored saved now) (outer saved) (asked Undo rest (record g { saved = counts }))
  undone_from t now [] counts g rest some goes = absurd (omega (arith, some))
  undone_from t now (book ∷ books) [] g rest some goes = let as_many = goes.levels.as_many in absurd (omega (arith, as_many))
  undone_from t now (book ∷ books) (count ∷ counts) g rest some goes =
      let nest = goes.levels.nest in
      let as_many = goes.levels.as_many in
      record {
        comes = λ heap long agrees.
            goes.comes heap long agrees
            ∙ ap (λ levels. hear (rest 0) (record (hearing_on base heap (restored (book ∷ books) now) books (record g { prints = take count g.prints; saved = counts })) { saved = levels }))
            (saved-taken base heap g.prints count books counts nest.1);
        allowed = goes.allowed.1 0 (omega arith);
        levels = record { as_many = omega (arith, as_many); nest = rw (length-take-le count g.prints nest.0) nest.1 };
      }

  pub undone : (t : Attempt) (now : Book) (saved : List Book) (g : Progress) (rest : ℕ → Talk) → 0 < length saved
      → GoesOn base block t (Asks Undo rest) now saved g → GoesOn base block t (rest 0) (restored saved now) (outer saved) (asked Undo rest g)
  undone t now saved g rest some goes = undone_from t now saved g.saved g rest some goes
