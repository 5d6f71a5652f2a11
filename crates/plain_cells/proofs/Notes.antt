-- What notes tell, where all of them are the heap's.
use Rattle.std.proofs.Common.{◌≡◌, ℕ, List, [], ◌∷◌, ◌++◌, length, get_or, arith, length-append}
use Rattle.std.specs.List.{Any}
use Rattle.std.proofs.lemmas.Grind.{common_steps}
use Rattle.stm_model.specs.declared.note.Note.{Note}
use Rattle.stm_model.specs.Heap.{Agrees}

last_of : (notes : List Note) (note : Note) → get_or (notes ++ note ∷ []) (length notes) note ≡ note
last_of notes note = grind (arith, common_steps)

pub Agrees-last : (notes : List Note) (note : Note) (heap : List ℕ) → Agrees (notes ++ note ∷ []) heap → get_or heap note.addr.0 0 ≡ note.value
Agrees-last notes note heap agrees =
    let h = agrees (length notes) note (omega (arith, length-append notes (note ∷ []))) in
    rw (last_of notes note) at h

pub Agrees-noted : (notes : List Note) (address value : ℕ) (heap : List ℕ) → Any (λ note. (note.addr.0 ≡ address) × (note.value ≡ value)) notes
    → Agrees notes heap → get_or heap address 0 ≡ value
Agrees-noted notes address value heap (k, note, within, here, tells) agrees =
    let h = rw here at (agrees k note within) in rw (tells.0, tells.1) at h

-- some note is of the cell
pub noted_cell : (notes : List Note) (address value : ℕ) → Any (λ note. (note.addr.0 ≡ address) × (note.value ≡ value)) notes → Any (λ note. note.addr.0 ≡ address) notes
noted_cell notes address value (k, note, within, here, tells) = (k, note, within, here, tells.0)

pub Agrees-empty : (notes : List Note) (heap : List ℕ) → notes ≡ [] → Agrees notes heap
Agrees-empty notes heap none = rw none (λ k d within. absurd (omega arith))
