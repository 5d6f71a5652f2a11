-- The accesses of a first write keep what is told.
use Rattle.std.proofs.Common.{◌≡◌, ℕ, zero, suc, nat_eq, Bool, true, false, not, ◌&&◌, if◌then◌else◌, List, [], ◌∷◌, Option, Some, None, refl, arith}
use Rattle.meta_word.specs.Meta.{owned_by_another, same_but_pending, same_meta}
use Rattle.meta_word.specs.Policy.{dooms}
use Rattle.meta_word.specs.declared.meta.Meta.{Meta}
use Rattle.meta_word.specs.declared.status.TxnStatus.{TxnStatus}
use Rattle.stm_model.specs.declared.access.Ask.TheVariants.{Set}
use Rattle.stm_model.specs.declared.cause.Cause.TheVariants.{Moved, WriteConflict}
use Rattle.stm_model.specs.declared.note.Note.{Note}
use Rattle.stm_model.specs.Accesses.{Answer, OfMeta, OfStatus, addr_of}
use Rattle.stm_model.specs.After.{acquire_again, acquiring, after_at, at, done, doom_or_again, exchanged, is_active, meta_acquired, note_of, owner_status_loaded, owner_validated, stale, stopped, write_refused}
use Rattle.stm_model.specs.Attempt.{Attempt, Stage, Write, Acquire, AcquireMeta, DoomOwner, OwnerMeta, OwnerStatus}
use Rattle.stm_model.specs.CellsState.{Book}
use Rattle.stm_model.specs.Heap.{put}
use Rattle.stm_model.proofs.HeapLemmas.{over-put}
use Rattle.ledger_model.specs.declared.job.Contents.{Contents}
use Rattle.ledger_model.specs.declared.script.Statement.{Statement}
use Rattle.ledger_model.specs.Heard.{Hearing, hear, with_ref}
use Rattle.ledger_model.specs.Talk.{Talk, Asks}
use Rattle.ledger_model.specs.Traced.{Progress}
use Rattle.trace_laws.proofs.Told.{GoesOnHere, IsRefusal, IsTold, ToldAt, book_then, hearing_on, heard_whole, is_any, undoable_on}
use Rattle.trace_laws.proofs.Going.{goes_at, stops, told_either}

pub is_any-put : (writes : List Write) (cell value : ℕ) → is_any (put writes cell value) ≡ true
is_any-put [] cell value = refl
is_any-put (write ∷ writes) cell value = go (nat_eq cell write.0)
  where
    go : (b : Bool) → is_any (if b then (cell, value) ∷ writes else write ∷ put writes cell value) ≡ true
    go true = refl
    go false = refl

-- A write that is put in the book is put into the contents.
pub put_heard : (base : Contents) (heap : List ℕ) (book : Book) (prints : List ℕ) (cell value : ℕ)
    → with_ref cell value (undoable_on base heap book prints) ≡ undoable_on base heap (record book { writes = put book.writes cell value }) prints
put_heard base heap book prints cell value = rw (over-put heap book.writes cell value, is_any-put book.writes cell value) refl

module _ (base : Contents) (block : List Statement) (g : Progress) (t : Attempt) (cell value : ℕ) where
  -- what is asked for, and what follows the answer
  abbrev pub asks : Talk
  asks = Asks (Set (addr_of cell) value) g.rest

  module _ (goes : GoesOnHere base block t asks g) where
    writes_at : (stage : Stage) → GoesOnHere base block (at t stage) asks g
    writes_at stage = goes_at base block g t asks stage goes

    is_refusal : (first latest : Meta) (another : Bool) → IsRefusal (if another then WriteConflict (addr_of cell) latest else Moved (addr_of cell) first latest)
    is_refusal first latest true = refl
    is_refusal first latest false = refl

    acquires_again : (left : ℕ) (tried : Bool) (first latest : Meta) → IsTold base block (acquire_again t cell value left tried first latest) g
    unfolding ToldAt
    acquires_again zero tried first latest = stops base block g t asks (write_refused t.own cell first latest) goes (is_refusal first latest (owned_by_another t.own latest))
    acquires_again (suc left) tried first latest = writes_at (AcquireMeta cell value left tried)

    dooms_or_again : (left : ℕ) (tried : Bool) (first : Meta) → IsTold base block (doom_or_again t cell value left tried first) g
    unfolding ToldAt
    dooms_or_again left tried first = told_either base block g (dooms t.settings.policy && not tried)
        (at t (OwnerStatus cell value left first)) (acquire_again t cell value left tried first first)
        (writes_at (OwnerStatus cell value left first)) (acquires_again left tried first first)

    acquires : (left : ℕ) (tried : Bool) (first : Meta) (another nobody : Bool) → IsTold base block (
        if another then doom_or_again t cell value left tried first else
        if nobody then at t (Acquire cell value left tried first first false) else acquire_again t cell value left tried first first) g
    unfolding ToldAt
    acquires left tried first true nobody = dooms_or_again left tried first
    acquires left tried first false true = writes_at (Acquire cell value left tried first first false)
    acquires left tried first false false = acquires_again left tried first first

    acquires_noted : (left : ℕ) (tried : Bool) (note : Option Note) (first : Meta) → IsTold base block (meta_acquired t cell value left tried note first) g
    unfolding acquiring
    acquires_noted left tried None first = acquires left tried first (owned_by_another t.own first) (nat_eq first.owner 0)
    acquires_noted left tried (Some note) first = told_either base block g (nat_eq note.version first.version)
        (acquiring t cell value left tried first) (stopped t (stale note first))
        (acquires left tried first (owned_by_another t.own first) (nat_eq first.owner 0)) (stops base block g t asks (stale note first) goes refl)

    -- ---- one write more

    writes : GoesOnHere base block (done (record t { now = record t.now { writes = put t.now.writes cell value } })) (g.rest 0) g
    writes = record {
      comes = λ heap size agrees.
          let before : Hearing = hearing_on base heap (book_then t) t.saved g in
          let asked : heard_whole base block heap ≡ hear (g.rest 0) (record before { now = with_ref cell value before.now }) = goes.comes heap size agrees in
          rw (put_heard base heap (book_then t) g.prints cell value) at asked;
      allowed = goes.allowed.1 0 (omega arith);
      levels = goes.levels;
    }

    exchanges : (left : ℕ) (tried : Bool) (first found : Meta) (won more : Bool) → IsTold base block (
        if won then done (record t { now = record t.now { writes = put t.now.writes cell value } }) else
        if more then at t (Acquire cell value left tried first found true) else acquire_again t cell value left tried first found) g
    unfolding ToldAt
    exchanges left tried first found true more = writes
    exchanges left tried first found false true = writes_at (Acquire cell value left tried first found true)
    exchanges left tried first found false false = acquires_again left tried first found

-- ---- each access

module _ (base : Contents) (block : List Statement) (g : Progress) (t : Attempt) (here : IsTold base block t g) where
  pub acquire_meta_told : (cell value left : ℕ) (tried : Bool) (answer : Answer) → GoesOnHere base block t (asks base block g t cell value) g
      → IsTold base block (after_at t (AcquireMeta cell value left tried) answer) g
  unfolding after_at
  acquire_meta_told cell value left tried (OfMeta found) goes = acquires_noted base block g t cell value goes left tried (note_of t.notes cell) found
  acquire_meta_told cell value left tried answer goes = here

  pub acquire_told : (cell value left : ℕ) (tried : Bool) (first expected : Meta) (again : Bool) (answer : Answer) → GoesOnHere base block t (asks base block g t cell value) g
      → IsTold base block (after_at t (Acquire cell value left tried first expected again) answer) g
  unfolding after_at exchanged
  acquire_told cell value left tried first expected again (OfMeta found) goes =
      exchanges base block g t cell value goes left tried first found (same_meta found expected) (not again && same_but_pending found expected)
  acquire_told cell value left tried first expected again answer goes = here

  pub owner_status_told : (cell value left : ℕ) (first : Meta) (answer : Answer) → GoesOnHere base block t (asks base block g t cell value) g
      → IsTold base block (after_at t (OwnerStatus cell value left first) answer) g
  unfolding after_at owner_status_loaded ToldAt
  owner_status_told cell value left first (OfStatus found) goes = told_either base block g (is_active found.phase)
      (at t (OwnerMeta cell value left first found)) (acquire_again t cell value left true first first)
      (writes_at base block g t cell value goes (OwnerMeta cell value left first found)) (acquires_again base block g t cell value goes left true first first)
  owner_status_told cell value left first answer goes = here

  pub owner_meta_told : (cell value left : ℕ) (first : Meta) (status : TxnStatus) (answer : Answer) → GoesOnHere base block t (asks base block g t cell value) g
      → IsTold base block (after_at t (OwnerMeta cell value left first status) answer) g
  unfolding after_at owner_validated ToldAt
  owner_meta_told cell value left first status (OfMeta found) goes = told_either base block g (nat_eq found.owner first.owner && not found.changing)
      (at t (DoomOwner cell value left first found status)) (acquire_again t cell value left true first found)
      (writes_at base block g t cell value goes (DoomOwner cell value left first found status)) (acquires_again base block g t cell value goes left true first found)
  owner_meta_told cell value left first status answer goes = here

  pub doom_owner_told : (cell value left : ℕ) (first second : Meta) (status : TxnStatus) (answer : Answer) → GoesOnHere base block t (asks base block g t cell value) g
      → IsTold base block (after_at t (DoomOwner cell value left first second status) answer) g
  unfolding after_at
  doom_owner_told cell value left first second status (OfStatus found) goes = acquires_again base block g t cell value goes left true first second
  doom_owner_told cell value left first second status answer goes = here
