-- A cell that was noted at another version.
use Rattle.std.proofs.Common.{◌≡◌, ℕ, Bool, true, false, nat_eq, List, [], ◌∷◌, Some, refl, arith}
use Rattle.std.proofs.lemmas.Bool.Decides.{nat_tests}
use Rattle.meta_word.specs.declared.meta.Meta.{Meta}
use Rattle.op_commit.specs.Acquire.{version_in}
use Rattle.stm_model.specs.declared.cause.Cause.TheVariants.{Stale}
use Rattle.stm_model.specs.declared.note.Note.{Note}
use Rattle.stm_model.specs.Accesses.{addr_of}
use Rattle.stm_model.specs.After.{meta_acquired, note_of, stopped}
use Rattle.stm_model.specs.Attempt.{Attempt}

-- of a note that is the cell's
stale_by : (t : Attempt) (cell value left : ℕ) (tried : Bool) (note : Note) (version : ℕ) (first : Meta) →
    note.addr.0 ≡ cell → note.version ≡ version → (version ≡ first.version → ⊥) →
    meta_acquired t cell value left tried (Some note) first ≡ stopped t (Stale (addr_of cell) version first)
stale_by t cell value left tried note version first of_cell noted other =
    let differs : nat_eq note.version first.version ≡ false = grind (arith, nat_tests) in
    rw (← of_cell, ← noted, differs) refl

-- of the first note that is the cell's
module _ (t : Attempt) (cell value left : ℕ) (tried : Bool) (version : ℕ) (first : Meta) (other : version ≡ first.version → ⊥) where
  abbrev Stales : List Note → Type 0
  Stales notes = version_in (note_of notes cell) ≡ Some version →
      meta_acquired t cell value left tried (note_of notes cell) first ≡ stopped t (Stale (addr_of cell) version first)

  by_first : (note : Note) (notes : List Note) (same : Bool) → nat_eq note.addr.0 cell ≡ same → Stales notes → Stales (note ∷ notes)
  by_first note notes true is rest noted =
      let of_cell : note.addr.0 ≡ cell = grind (arith, nat_tests) in
      let found : version_in (Some note) ≡ Some version = rw is at noted in
      rw is (stale_by t cell value left tried note version first of_cell (cc) other)
  by_first note notes false is rest noted =
      let found : version_in (note_of notes cell) ≡ Some version = rw is at noted in
      rw is (rest found)

  found-stale : (notes : List Note) → Stales notes
  found-stale [] noted = absurd cc
  found-stale (note ∷ notes) noted = by_first note notes (nat_eq note.addr.0 cell) refl (found-stale notes) noted

pub stale : (t : Attempt) (cell value left : ℕ) (tried : Bool) (version : ℕ) (first : Meta) →
    version_in (note_of t.notes cell) ≡ Some version → (version ≡ first.version → ⊥) →
    meta_acquired t cell value left tried (note_of t.notes cell) first ≡ stopped t (Stale (addr_of cell) version first)
stale t cell value left tried version first noted other = found-stale t cell value left tried version first other t.notes noted
