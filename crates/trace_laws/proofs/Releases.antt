-- The accesses that release a level's cells keep what is told.
use Rattle.std.proofs.Common.{◌≡◌, ℕ, Bool, true, false, List, [], ◌∷◌, ◌++◌, refl}
use Rattle.std.proofs.lemmas.List.{append-nil}
use Rattle.stm_model.specs.Accesses.{Answer, OfMeta}
use Rattle.stm_model.specs.After.{after_at, release_level_on, ring_if, run_all}
use Rattle.stm_model.specs.Attempt.{Attempt, Write, ReleaseLevel}
use Rattle.stm_model.specs.CellsState.{Book, level_runs, outer, restored, returned}
use Rattle.stm_model.specs.HandlerRuns.{due_runs}
use Rattle.stm_model.specs.Handlers.{Handlers}
use Rattle.stm_model.proofs.HandlerRunsLemmas.{due-ring_if, due-run_all}
use Rattle.ledger_model.specs.declared.job.Contents.{Contents}
use Rattle.ledger_model.specs.declared.script.Statement.{Statement}
use Rattle.ledger_model.specs.Traced.{Progress}
use Rattle.trace_laws.proofs.Told.{GoesOn, IsTold, ToldAt, book_then}

due_ring_then : (pending : Bool) (cell : ℕ) (hooks : Handlers) → due_runs (ring_if pending cell ++ run_all hooks) ≡ hooks
due_ring_then true cell hooks = due-run_all hooks
due_ring_then false cell hooks = due-run_all hooks

-- the book once the bell is rung
rung_then : (now : Book) (pending : Bool) (cell : ℕ) → record now { runs = now.runs ++ due_runs (ring_if pending cell) } ≡ now
rung_then now pending cell = rw (due-ring_if pending cell, append-nil now.runs) refl

-- the book once the level's handlers have run
returned_then : (saved : List Book) (now : Book) → record (returned saved now) { runs = (returned saved now).runs ++ level_runs saved now } ≡ restored saved now
returned_then [] now = rw (append-nil now.runs) refl
returned_then (former ∷ books) now = refl

level_then : (saved : List Book) (now : Book) (pending : Bool) (cell : ℕ)
    → record (returned saved now) { runs = (returned saved now).runs ++ due_runs (ring_if pending cell ++ run_all (level_runs saved now)) } ≡ restored saved now
level_then saved now pending cell = rw (due_ring_then pending cell (level_runs saved now)) (returned_then saved now)

-- nothing is due
pub undue_then : (t : Attempt) → t.due ≡ [] → book_then t ≡ t.now
undue_then t none = rw (none, append-nil t.now.runs) refl

module _ (base : Contents) (block : List Statement) (g : Progress) (t : Attempt) where
  -- where it goes on once the level is undone
  abbrev pub BehindLevel : Book → Type 0
  BehindLevel now = GoesOn base block t (g.rest 0) (restored t.saved now) (outer t.saved) g

  -- Each cell is released, and then the level is undone.
  pub releases_level : (pending : Bool) (cell : ℕ) (kept behind : List Write) → BehindLevel t.now
      → IsTold base block (release_level_on (record t { due = ring_if pending cell }) kept behind) g
  unfolding ToldAt
  releases_level pending cell kept [] goes =
      rw (level_then t.saved t.now pending cell) (record { comes = goes.comes; allowed = goes.allowed; levels = goes.levels })
  releases_level pending cell kept (write ∷ behind) goes =
      rw (rung_then t.now pending cell) (record { comes = goes.comes; allowed = goes.allowed; levels = goes.levels })

  pub release_level_told : (kept : List Write) (write : Write) (behind : List Write) (answer : Answer) → t.due ≡ [] → BehindLevel (book_then t) → IsTold base block t g
      → IsTold base block (after_at t (ReleaseLevel kept write behind) answer) g
  unfolding after_at
  release_level_told kept write behind (OfMeta found) none goes here = releases_level found.pending write.0 kept behind (rw (undue_then t none) at goes)
  release_level_told kept write behind answer none goes here = here
