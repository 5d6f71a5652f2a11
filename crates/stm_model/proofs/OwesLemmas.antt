-- When writes meet what is owed.
use Rattle.std.proofs.Common.{ℕ, ◌<◌, List, [], ◌++◌, length, arith, length-append}
use Rattle.std.proofs.lemmas.List.{get_or_append_left}
use Rattle.stm_model.specs.declared.note.Note.{Note}
use Rattle.stm_model.specs.Heap.{Agrees}
use Rattle.stm_model.specs.Owes.{IsPossible, Owes}

pub Agrees-front : (notes more : List Note) (heap : List ℕ) → Agrees (notes ++ more) heap → Agrees notes heap
Agrees-front notes more heap agrees = λ k d within.
    let here : k < length (notes ++ more) = omega (arith, length-append notes more) in
    rw (get_or_append_left notes more d k within) at (agrees k d here)

pub IsPossible-front : (lawful : List ℕ → Type 0) (size : ℕ) (notes more : List Note) (heap : List ℕ) → IsPossible lawful size (notes ++ more) heap → IsPossible lawful size notes heap
IsPossible-front lawful size notes more heap possible = record {
  cells = possible.cells;
  words = possible.words;
  keeps_law = possible.keeps_law;
  agrees = Agrees-front notes more heap possible.agrees;
}

-- What was owed before a read is so after it.
pub Owes-append : (lawful : List ℕ → Type 0) (may : List ℕ → List ℕ → Type 0) (size : ℕ) (notes more : List Note) (writes : List (ℕ × ℕ))
    → Owes lawful may size notes writes → Owes lawful may size (notes ++ more) writes
Owes-append lawful may size notes more writes owes = λ heap possible. owes heap (IsPossible-front lawful size notes more heap possible)

pub Owes-nil : (lawful : List ℕ → Type 0) (may : List ℕ → List ℕ → Type 0) (size : ℕ) (notes : List Note)
    → ((heap : List ℕ) → lawful heap → may heap heap) → Owes lawful may size notes []
Owes-nil lawful may size notes stays = λ heap possible. (possible.keeps_law, stays heap possible.keeps_law)
