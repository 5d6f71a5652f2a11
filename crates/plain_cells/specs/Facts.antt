-- Private: what ghost fields of plain cells rest on.
use Rattle.std.proofs.Common.{ℕ, List, length, Option, Some, None, refl}
use Rattle.std.specs.Prelude.{IfSome}
use Rattle.std.specs.Coded.{Unit-prop}
use Rattle.std.proofs.Math.Nat.{ℕ_set}
use denote.Struct.Props.{props}
use Rattle.stm_model.specs.declared.cause.Cause.{Cause}
use Rattle.stm_model.specs.declared.note.Note.{Note}
use Rattle.stm_model.specs.Heap.{Agrees, AreWords}
use Rattle.stm_model.specs.Refusing.{IsOfCells}
use Rattle.stm_model.specs.Telling.{Witness}
use Rattle.stm_model.proofs.CellsLemmas.{IsOfCells-prop}

pub Agrees-prop : (notes : List Note) (heap : List ℕ) → IsProp (Agrees notes heap)
Agrees-prop notes heap = hlevel (ℕ_set)

pub AreWords-prop : (heap : List ℕ) → IsProp (AreWords heap)
AreWords-prop heap = hlevel props

pub IsAnswer-prop : (cause : Option Cause) → IsProp (IfSome cause IsOfCells)
IsAnswer-prop None = Unit-prop
IsAnswer-prop (Some cause) = IsOfCells-prop cause

-- the heap itself is possible by the notes
pub witness_of : (lawful : List ℕ → Type 0) (heap : List ℕ) (notes : List Note) → AreWords heap → Agrees notes heap → lawful heap → Witness lawful (length heap) notes
witness_of lawful heap notes words agrees keeps = (heap, record { cells = refl; words = words; keeps_law = keeps; agrees = agrees })
