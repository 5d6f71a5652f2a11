-- Private: levels that nest, by how many handlers were registered where each began.
use Rattle.std.specs.Prelude.{ℕ, ◌≤◌, List, [], ◌∷◌, length}
use Rattle.std.specs.Coded.{×_prop, Unit-prop}
use Rattle.std.specs.Map.{values_of}
use denote.Struct.Props.{props}
use Rattle.stm_model.specs.Heap.{AreWords}
use Rattle.plain_cells.specs.declared.book.PlainBook.{PlainBook}

-- Each level began with at most so many handlers, and the levels around it with at most as many as it did.
abbrev pub Nest : ℕ → List PlainBook → Type 0
Nest most [] = Unit {0}
Nest most (book ∷ books) = (length book.hooks.items ≤ most) × Nest (length book.hooks.items) books

pub Nest-prop : (most : ℕ) (books : List PlainBook) → IsProp (Nest most books)
Nest-prop most [] = Unit-prop
Nest-prop most (book ∷ books) = ×_prop (hlevel props) (Nest-prop (length book.hooks.items) books)

-- All values that these books write are words.
abbrev pub WriteWords : List PlainBook → Type 0
WriteWords [] = Unit {0}
WriteWords (book ∷ books) = AreWords (values_of book.writes.items) × WriteWords books

pub WriteWords-prop : (books : List PlainBook) → IsProp (WriteWords books)
WriteWords-prop [] = Unit-prop
WriteWords-prop (book ∷ books) = ×_prop (hlevel props) (WriteWords-prop books)
