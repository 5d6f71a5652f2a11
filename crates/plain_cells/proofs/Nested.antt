-- Levels that nest still do where one is left, and where handlers are registered. What was written stays words.
use Rattle.std.proofs.Common.{◌≡◌, ℕ, ◌<◌, ◌≤◌, List, [], ◌∷◌, length, ap, arith}
use Rattle.std.specs.Map.{values_of}
use Rattle.std.specs.Prelude.{◌^◌, remove, slice_index_or}
use Rattle.std.proofs.lemmas.List.Elements.{All-nil}
use Rattle.stm_model.specs.CellsState.{Book, empty_book}
use Rattle.stm_model.specs.Heap.{AreWords, put}
use Rattle.stm_model.proofs.HeapLemmas.{AreWords-put}
use Rattle.plain_cells.specs.Book.{book_of}
use Rattle.plain_cells.specs.declared.book.PlainBook.{PlainBook}
use Rattle.plain_cells.specs.Levels.{Nest, WriteWords}

pub Nest-more : (most more : ℕ) (books : List PlainBook) → most ≤ more → Nest most books → Nest more books
Nest-more most more [] le nest = tt
Nest-more most more (book ∷ books) le nest = (omega (arith, nest.0), nest.1)

-- around the innermost level
pub Nest-outer : (most : ℕ) (books rest : List PlainBook) (book : PlainBook) → 0 < length books → book ≡ slice_index_or books 0 book → rest ≡ remove books 0
    → Nest most books → (length book.hooks.items ≤ most) × Nest (length book.hooks.items) rest
Nest-outer most [] rest book some is left nest = absurd (omega arith)
Nest-outer most (first ∷ books) rest book some is left nest = rw (left, is) nest

pub Nest-left : (most : ℕ) (books rest : List PlainBook) (book : PlainBook) → 0 < length books → book ≡ slice_index_or books 0 book → rest ≡ remove books 0
    → Nest most books → Nest most rest
Nest-left most books rest book some is left nest =
    let outer = Nest-outer most books rest book some is left nest in Nest-more (length book.hooks.items) most rest outer.0 outer.1

pub Nest-empty : (most : ℕ) (books : List PlainBook) → books ≡ [] → Nest most books
Nest-empty most books none = rw none tt

-- ---- values that are words

pub WriteWords-empty : (book : PlainBook) (books : List PlainBook) → book_of book ≡ empty_book → books ≡ [] → WriteWords (book ∷ books)
WriteWords-empty book books none nothing =
    let unwritten : book.writes.items ≡ [] = ap (λ (b : Book). b.writes) none in
    (rw unwritten (All-nil (λ number. number < 2 ^ 64)), rw nothing tt)

pub WriteWords-same : (book new : PlainBook) (books : List PlainBook) → new.writes.items ≡ book.writes.items → WriteWords (book ∷ books) → WriteWords (new ∷ books)
WriteWords-same book new books same words = (rw same words.0, words.1)

pub WriteWords-left : (books rest : List PlainBook) → rest ≡ remove books 0 → WriteWords books → WriteWords rest
WriteWords-left [] rest left words = rw left tt
WriteWords-left (book ∷ books) rest left words = rw left words.1

pub WriteWords-first : (books : List PlainBook) (book : PlainBook) → 0 < length books → book ≡ slice_index_or books 0 book → WriteWords books
    → AreWords (values_of book.writes.items)
WriteWords-first [] book some is words = absurd (omega arith)
WriteWords-first (first ∷ books) book some is words = rw is words.0

pub WriteWords-put : (book new : PlainBook) (books : List PlainBook) (address value : ℕ) → new.writes.items ≡ put book.writes.items address value → value < 2 ^ 64
    → WriteWords (book ∷ books) → WriteWords (new ∷ books)
WriteWords-put book new books address value is fits words = (rw is (AreWords-put book.writes.items address value words.0 fits), words.1)
