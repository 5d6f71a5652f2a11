-- The open levels lead back to their books, through each change of what is written and registered.
use Rattle.std.proofs.Common.{◌≡◌, ℕ, zero, suc, ◌≤◌, List, [], ◌∷◌, ◌++◌, length, take, drop, nat_eq, slice_get, None, Some, refl, sym, ap, ◌∙◌, subst, append-nil, arith}
use Rattle.std.specs.List.{All, list_any}
use Rattle.std.proofs.lemmas.List.{length-append, length-take-le, take-append-le, take_all}
use Rattle.std.proofs.lemmas.List.Elements.{All-head, All-tail, All-cons, All-nil, All-weaker}
use Rattle.lifecycle.specs.Registered.{Registered}
use Rattle.stm_core.specs.Marked.{AreMarked, IsFront, IsMarked, IsOuter}
use Rattle.stm_core.specs.Past.{book_of}
use Rattle.stm_model.specs.After.{at, release_level_on, run_all}
use Rattle.stm_model.specs.Attempt.{Attempt, Ready, Write}
use Rattle.stm_model.specs.CellsState.{Book, outer}
use Rattle.stm_model.specs.Handlers.{Handlers, undoing}
use Rattle.stm_model.specs.declared.marks.Level.{Level}
use Rattle.stm_model.specs.declared.marks.WriteMark.{WriteMark}
use Rattle.op_commit.specs.Back.{former_writes}
use Rattle.stm_model.specs.Heap.{writes_to}
use Rattle.write_buffer.proofs.Restored.{length_restored}
use Rattle.write_buffer.proofs.Indexed.{keys_restored}
use Rattle.write_buffer.specs.Buffer.{Buffer, IsMark, IsNoLater, Keeps, at_mark}

-- ---- as many levels as books

pub as_many : (writes : Buffer) (registered : Registered) (levels : List Level) (books : List Book) → AreMarked writes registered levels books → length levels ≡ length books
unfolding AreMarked
as_many writes registered [] [] marked = refl
as_many writes registered [] (book ∷ books) marked = absurd marked
as_many writes registered (level ∷ levels) [] marked = absurd marked
as_many writes registered (level ∷ levels) (book ∷ books) marked = ap suc (as_many writes registered levels books marked.1.1)

-- ---- each level by itself, and all together

-- Where each level stays marked, all do.
pub each_stays : (before after : Buffer) (former latter : Registered) (levels : List Level) (books : List Book)
    → ((level : Level) (book : Book) → IsMarked before former level book → IsMarked after latter level book)
    → AreMarked before former levels books → AreMarked after latter levels books
unfolding AreMarked
each_stays before after former latter [] [] each marked = tt
each_stays before after former latter [] (book ∷ books) each marked = absurd marked
each_stays before after former latter (level ∷ levels) [] each marked = absurd marked
each_stays before after former latter (level ∷ levels) (book ∷ books) each marked =
    (each level book marked.0, (marked.1.0, each_stays before after former latter levels books each marked.1.1))

-- Where those that hold to some rule stay marked, and all hold to it, all do.
pub each_such_stays : (P : Level → Type 0) (before after : Buffer) (former latter : Registered) (levels : List Level) (books : List Book)
    → ((level : Level) (book : Book) → P level → IsMarked before former level book → IsMarked after latter level book)
    → All P levels → AreMarked before former levels books → AreMarked after latter levels books
unfolding AreMarked
each_such_stays P before after former latter [] [] each such marked = tt
each_such_stays P before after former latter [] (book ∷ books) each such marked = absurd marked
each_such_stays P before after former latter (level ∷ levels) [] each such marked = absurd marked
each_such_stays P before after former latter (level ∷ levels) (book ∷ books) each such marked =
    (each level book (All-head P level levels such) marked.0, (marked.1.0, each_such_stays P before after former latter levels books each (All-tail P level levels such) marked.1.1))

-- ---- the parts of one level

front_longer : {A : Type 0} (count : ℕ) (list more front : List A) → IsFront count list front → IsFront count (list ++ more) front
front_longer count list more front is = record {
  within = omega (arith, length-append list more, is.within);
  same = take-append-le count list more is.within ∙ is.same;
}

take_within : {A : Type 0} (fewer n : ℕ) (list : List A) → fewer ≤ n → take fewer (take n list) ≡ take fewer list
take_within zero n list within = refl
take_within (suc fewer) zero list within = absurd (omega arith)
take_within (suc fewer) (suc n) [] within = refl
take_within (suc fewer) (suc n) (x ∷ list) within = ap (λ rest. x ∷ rest) (take_within fewer n list (omega arith))

front_cut : {A : Type 0} (count n : ℕ) (list front : List A) → count ≤ n → n ≤ length list → IsFront count list front → IsFront count (take n list) front
front_cut count n list front fewer within is = record {
  within = rw (length-take-le n list within) fewer;
  same = take_within count n list fewer ∙ is.same;
}

whole_front : {A : Type 0} (count : ℕ) (list : List A) → count ≡ length list → IsFront count list list
whole_front count list all = record { within = omega arith; same = take_all count list (omega arith) }

-- ---- what is written changes

kept_mark : (before after : Buffer) (registered : Registered) (level : Level) (book : Book) → Keeps before after level.writes
    → IsMarked before registered level book → IsMarked after registered level book
kept_mark before after registered level book keeps marked = record {
  mark = keeps.still;
  writes_then = keeps.same ∙ marked.writes_then;
  hooks_then = marked.hooks_then;
  laters_then = marked.laters_then;
}

-- Each mark is kept.
pub marked_while_kept : (before after : Buffer) (registered : Registered) (levels : List Level) (books : List Book)
    → ((mark : WriteMark) → IsMark before mark → Keeps before after mark)
    → AreMarked before registered levels books → AreMarked after registered levels books
marked_while_kept before after registered levels books keeps =
    each_stays before after registered registered levels books (λ level book marked. kept_mark before after registered level book (keeps level.writes marked.mark) marked)

-- The innermost level's mark is kept, and each that was taken no later.
pub marked_while_outer_kept : (before after : Buffer) (registered : Registered) (levels : List Level) (books : List Book)
    → ((level : Level) → slice_get levels 0 ≡ Some level → (mark : WriteMark) → IsNoLater mark level.writes → Keeps before after mark)
    → AreMarked before registered levels books → AreMarked after registered levels books
unfolding AreMarked
marked_while_outer_kept before after registered [] [] keeps marked = tt
marked_while_outer_kept before after registered [] (book ∷ books) keeps marked = absurd marked
marked_while_outer_kept before after registered (level ∷ levels) [] keeps marked = absurd marked
marked_while_outer_kept before after registered (level ∷ levels) (book ∷ books) keeps marked = (
  kept_mark before after registered level book (keeps level refl level.writes (record { entries = omega arith; restores = omega arith })) marked.0,
  (
    marked.1.0,
    each_such_stays (IsOuter level) before after registered registered levels books
        (λ other former outer is. kept_mark before after registered other former (keeps level refl other.writes outer.writes) is)
        marked.1.0 marked.1.1,
  ),
)

-- ---- what is registered changes

-- More is registered at the ends.
pub marked_with_more : (writes : Buffer) (former latter : Registered) (hooks : Handlers) (laters : List ℕ) (levels : List Level) (books : List Book)
    → latter.hooks ≡ former.hooks ++ hooks → latter.laters ≡ former.laters ++ laters
    → AreMarked writes former levels books → AreMarked writes latter levels books
marked_with_more writes former latter hooks laters levels books more_hooks more_laters =
    each_stays writes writes former latter levels books (λ level book marked. record {
      mark = marked.mark;
      writes_then = marked.writes_then;
      hooks_then = rw more_hooks (front_longer level.hooks former.hooks hooks book.hooks marked.hooks_then);
      laters_then = rw more_laters (front_longer level.laters former.laters laters book.laters marked.laters_then);
    })

-- A handler is registered.
pub marked_with_hook : (writes : Buffer) (former latter : Registered) (hooks : Handlers) (levels : List Level) (books : List Book)
    → latter.hooks ≡ former.hooks ++ hooks → latter.laters ≡ former.laters
    → AreMarked writes former levels books → AreMarked writes latter levels books
marked_with_hook writes former latter hooks levels books more same =
    marked_with_more writes former latter hooks [] levels books more (same ∙ sym (append-nil former.laters))

-- A before-commit body is.
pub marked_with_later : (writes : Buffer) (former latter : Registered) (laters : List ℕ) (levels : List Level) (books : List Book)
    → latter.hooks ≡ former.hooks → latter.laters ≡ former.laters ++ laters
    → AreMarked writes former levels books → AreMarked writes latter levels books
marked_with_later writes former latter laters levels books same more =
    marked_with_more writes former latter [] laters levels books (same ∙ sym (append-nil former.hooks)) more

-- Only the room is another.
pub marked_with_same : (writes : Buffer) (former latter : Registered) (levels : List Level) (books : List Book)
    → latter.hooks ≡ former.hooks → latter.laters ≡ former.laters
    → AreMarked writes former levels books → AreMarked writes latter levels books
marked_with_same writes former latter levels books same_hooks same =
    marked_with_hook writes former latter [] levels books (same_hooks ∙ sym (append-nil former.hooks)) same

-- Handlers are forgotten that none of the levels counts.
pub marked_with_fewer : (writes : Buffer) (former latter : Registered) (hooks : ℕ) (levels : List Level) (books : List Book)
    → hooks ≤ length former.hooks → latter.hooks ≡ take hooks former.hooks → latter.laters ≡ former.laters
    → All (λ level. level.hooks ≤ hooks) levels
    → AreMarked writes former levels books → AreMarked writes latter levels books
marked_with_fewer writes former latter hooks levels books within fewer same =
    each_such_stays (λ level. level.hooks ≤ hooks) writes writes former latter levels books (λ level book outer marked. record {
      mark = marked.mark;
      writes_then = marked.writes_then;
      hooks_then = rw fewer (front_cut level.hooks hooks former.hooks book.hooks outer within marked.hooks_then);
      laters_then = rw same marked.laters_then;
    })

-- ---- a level is entered

-- The level is that of the present.
pub record IsNow (writes : Buffer) (registered : Registered) (level : Level) : Type 0 where
  pub mark : IsMark writes level.writes
  pub same : at_mark writes level.writes ≡ writes.writes
  pub last : (mark : WriteMark) → IsMark writes mark → IsNoLater mark level.writes
  pub hooks : level.hooks ≡ length registered.hooks
  pub laters : level.laters ≡ length registered.laters

around_now : (writes : Buffer) (registered : Registered) (level : Level) (levels : List Level) (books : List Book) → IsNow writes registered level
    → AreMarked writes registered levels books → All (IsOuter level) levels
unfolding AreMarked
around_now writes registered level [] books now marked = All-nil (IsOuter level)
around_now writes registered level (other ∷ levels) [] now marked = absurd marked
around_now writes registered level (other ∷ levels) (book ∷ books) now marked =
    All-cons (IsOuter level) other levels (record {
      writes = now.last other.writes marked.0.mark;
      hooks = omega (arith, now.hooks, marked.0.hooks_then.within);
      laters = omega (arith, now.laters, marked.0.laters_then.within);
    }) (around_now writes registered level levels books now marked.1.1)

pub marked_entered : (writes : Buffer) (registered : Registered) (runs : Handlers) (level : Level) (levels : List Level) (books : List Book) → IsNow writes registered level
    → AreMarked writes registered levels books → AreMarked writes registered (level ∷ levels) (book_of writes registered runs ∷ books)
unfolding AreMarked
marked_entered writes registered runs level levels books now marked = (
  record {
    mark = now.mark;
    writes_then = now.same;
    hooks_then = whole_front level.hooks registered.hooks now.hooks;
    laters_then = whole_front level.laters registered.laters now.laters;
  },
  (around_now writes registered level levels books now marked, marked),
)

-- ---- the innermost level

-- This level is the innermost one, and these are around it.
pub record IsInnermost (writes : Buffer) (registered : Registered) (level : Level) (levels : List Level) (books : List Book) : Type 0 where
  pub book : Book
  pub books_are : books ≡ book ∷ outer books
  pub marked : IsMarked writes registered level book
  pub around : All (IsOuter level) levels
  pub others : AreMarked writes registered levels (outer books)

innermost_of : (writes : Buffer) (registered : Registered) (level : Level) (levels : List Level) (books : List Book) → AreMarked writes registered (level ∷ levels) books
    → IsInnermost writes registered level levels books
unfolding AreMarked
innermost_of writes registered level levels [] marked = absurd marked
innermost_of writes registered level levels (book ∷ books) marked = record {
  book = book;
  books_are = refl;
  marked = marked.0;
  around = marked.1.0;
  others = marked.1.1;
}

pub innermost : (writes : Buffer) (registered : Registered) (level : Level) (levels all : List Level) (books : List Book) → all ≡ level ∷ levels
    → AreMarked writes registered all books → IsInnermost writes registered level levels books
innermost writes registered level levels all books is marked =
    innermost_of writes registered level levels books (subst (λ list. AreMarked writes registered list books) is marked)

pub first_and_others : (levels : List Level) (level : Level) → slice_get levels 0 ≡ Some level → levels ≡ level ∷ drop 1 levels
first_and_others [] level is = absurd (cc is)
first_and_others (other ∷ levels) level is = let same : other ≡ level = cc is in ap (λ first. first ∷ levels) same

-- At a mark the cells are those that were written before it.
written_at : (writes : Buffer) (mark : WriteMark) (cell : ℕ) → writes_to (take mark.entries writes.writes) cell ≡ writes_to (at_mark writes mark) cell
unfolding at_mark
written_at writes mark cell = sym (ap (λ (cells : List ℕ). list_any (nat_eq cell) cells) (keys_restored (take mark.entries writes.writes) (drop mark.restores writes.replaced)))

pub former_innermost : (writes : Buffer) (registered : Registered) (level : Level) (levels : List Level) (books : List Book) → IsInnermost writes registered level levels books
    → (cell : ℕ) → writes_to (take level.writes.entries writes.writes) cell ≡ writes_to (former_writes books) cell
former_innermost writes registered level levels books inner cell =
    written_at writes level.writes cell ∙ ap (λ list. writes_to list cell) (inner.marked.writes_then ∙ sym (ap former_writes inner.books_are))

-- Where no level is open, none was written before.
pub former_none : (writes : Buffer) (registered : Registered) (levels : List Level) (books : List Book) → length levels ≡ 0 → AreMarked writes registered levels books → (cell : ℕ) → writes_to [] cell ≡ writes_to (former_writes books) cell
unfolding AreMarked
former_none writes registered [] [] none marked cell = refl
former_none writes registered [] (book ∷ books) none marked cell = absurd marked
former_none writes registered (level ∷ levels) books none marked cell = absurd (cc none)

-- Those around a level that is closed stay marked.
pub marked_around : (writes : Buffer) (registered : Registered) (levels : List Level) (books : List Book)
    → AreMarked writes registered levels books → AreMarked writes registered (drop 1 levels) (outer books)
unfolding AreMarked
marked_around writes registered [] [] marked = tt
marked_around writes registered [] (book ∷ books) marked = absurd marked
marked_around writes registered (level ∷ levels) [] marked = absurd marked
marked_around writes registered (level ∷ levels) (book ∷ books) marked = marked.1.1

-- ---- a level is undone

pub length_at_mark : (writes : Buffer) (mark : WriteMark) → IsMark writes mark → length (at_mark writes mark) ≡ mark.entries
unfolding at_mark
length_at_mark writes mark is = length_restored (take mark.entries writes.writes) (drop mark.restores writes.replaced) ∙ length-take-le mark.entries writes.writes is.entries

pub entries_of_book : (writes : Buffer) (registered : Registered) (level : Level) (book : Book) → IsMarked writes registered level book → length book.writes ≡ level.writes.entries
entries_of_book writes registered level book marked = sym (ap length marked.writes_then) ∙ length_at_mark writes level.writes marked.mark

hooks_of_book : (writes : Buffer) (registered : Registered) (level : Level) (book : Book) → IsMarked writes registered level book → length book.hooks ≡ level.hooks
hooks_of_book writes registered level book marked = sym (ap length marked.hooks_then.same) ∙ length-take-le level.hooks registered.hooks marked.hooks_then.within

-- Its writes are rolled back and its before-commit bodies forgotten. Its handlers stay.
pub marked_undone : (before after : Buffer) (former latter : Registered) (level : Level) (levels : List Level) (books : List Book)
    → ((older : WriteMark) → IsNoLater older level.writes → Keeps before after older)
    → level.laters ≤ length former.laters → latter.laters ≡ take level.laters former.laters → latter.hooks ≡ former.hooks
    → All (IsOuter level) levels → AreMarked before former levels books → AreMarked after latter levels books
marked_undone before after former latter level levels books keeps within fewer same =
    each_such_stays (IsOuter level) before after former latter levels books (λ other book outer marked. let kept = keeps other.writes outer.writes in record {
      mark = kept.still;
      writes_then = kept.same ∙ marked.writes_then;
      hooks_then = rw same marked.hooks_then;
      laters_then = rw fewer (front_cut other.laters level.laters former.laters book.laters outer.laters within marked.laters_then);
    })

-- None of the levels around it counts more handlers.
pub no_more_hooks : (level : Level) (levels : List Level) → All (IsOuter level) levels → All (λ other. other.hooks ≤ level.hooks) levels
no_more_hooks level levels outer = All-weaker (IsOuter level) (λ other. other.hooks ≤ level.hooks) (λ other is. is.hooks) levels outer

-- the attempt with this book and these saved
abbrev with_books : Attempt → Book → List Book → Attempt
with_books t now saved = record t { now = now; saved = saved }

-- the book that a level leads back to
abbrev pub led_back : Buffer → Registered → Handlers → Level → Book
led_back writes registered runs level = record { writes = at_mark writes level.writes; hooks = take level.hooks registered.hooks; laters = take level.laters registered.laters; runs = runs }

undone_first : (t : Attempt) (kept : List Write) (writes : Buffer) (registered : Registered) (runs : Handlers) (level : Level) (book : Book) (books : List Book) → IsMarked writes registered level book
    → at (record (with_books t (led_back writes registered runs level) books) { due = t.due ++ run_all (undoing (drop level.hooks registered.hooks)) }) (Ready None)
    ≡ release_level_on (with_books t (book_of writes registered runs) (book ∷ books)) kept []
undone_first t kept writes registered runs level book books marked =
    rw (marked.writes_then, marked.hooks_then.same, marked.laters_then.same, hooks_of_book writes registered level book marked) refl

-- What is left then is what the definitions say.
pub shows_undone : (t : Attempt) (kept : List Write) (writes : Buffer) (registered : Registered) (runs : Handlers) (level : Level) (levels : List Level) (books : List Book)
    → IsInnermost writes registered level levels books
    → at (record (with_books t (led_back writes registered runs level) (outer books)) { due = t.due ++ run_all (undoing (drop level.hooks registered.hooks)) }) (Ready None)
    ≡ release_level_on (with_books t (book_of writes registered runs) books) kept []
shows_undone t kept writes registered runs level levels books is =
    subst (λ saved. at (record (with_books t (led_back writes registered runs level) (outer saved)) { due = t.due ++ run_all (undoing (drop level.hooks registered.hooks)) }) (Ready None)
    ≡ release_level_on (with_books t (book_of writes registered runs) saved) kept []) (sym is.books_are)
    (undone_first t kept writes registered runs level is.book (outer books) is.marked)
