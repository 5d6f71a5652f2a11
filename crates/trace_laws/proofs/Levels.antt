-- The open levels of an attempt and of its script.
use Rattle.std.proofs.Common.{◌≡◌, ℕ, zero, suc, ◌≤◌, List, [], ◌∷◌, ◌++◌, length, take, drop, refl, sym, ap, ◌∙◌, arith}
use Rattle.std.proofs.lemmas.List.{take-append-le}
use Rattle.stm_model.specs.CellsState.{Book, outer}
use Rattle.ledger_model.specs.declared.job.Contents.{Contents}
use Rattle.trace_laws.proofs.Told.{CountsNest, laters_of, saved_on, undoable_on}

-- ---- how many prints each level began with

pub nest-more : (most more : ℕ) (counts : List ℕ) → most ≤ more → CountsNest most counts → CountsNest more counts
nest-more most more [] few nest = tt
nest-more most more (count ∷ counts) few nest = let first = nest.0 in (omega (arith, first, few), nest.1)

pub nest-drop : (most : ℕ) (counts : List ℕ) → CountsNest most counts → CountsNest most (drop 1 counts)
nest-drop most [] nest = tt
nest-drop most (count ∷ counts) nest = nest-more count most counts nest.0 nest.1

-- ---- the same levels by other prints

module _ (base : Contents) (heap : List ℕ) (one other : List ℕ) where
  pub saved-same : (most : ℕ) → ((count : ℕ) → count ≤ most → take count one ≡ take count other) → (saved : List Book) (counts : List ℕ) → CountsNest most counts
      → saved_on base heap one saved counts ≡ saved_on base heap other saved counts
  saved-same most same [] counts nest = refl
  saved-same most same (book ∷ books) [] nest = refl
  saved-same most same (book ∷ books) (count ∷ counts) nest =
      let first = nest.0 in
      ap (λ prints. undoable_on base heap book prints ∷ saved_on base heap one books counts) (same count first)
      ∙ ap (λ levels. undoable_on base heap book (take count other) ∷ levels)
      (saved-same count (λ fewer few. same fewer (omega (arith, few, first))) books counts nest.1)

-- a print more
pub saved-said : (base : Contents) (heap prints more : List ℕ) (saved : List Book) (counts : List ℕ) → CountsNest (length prints) counts
    → saved_on base heap prints saved counts ≡ saved_on base heap (prints ++ more) saved counts
saved-said base heap prints more = saved-same base heap prints (prints ++ more) (length prints) (λ count few. sym (take-append-le count prints more few))

take-take : (few most : ℕ) (list : List ℕ) → few ≤ most → take few list ≡ take few (take most list)
take-take zero most list less = refl
take-take (suc few) zero list less = absurd (omega (arith, less))
take-take (suc few) (suc most) [] less = refl
take-take (suc few) (suc most) (n ∷ list) less = ap (λ rest. n ∷ rest) (take-take few most list (omega (arith, less)))

-- fewer prints
pub saved-taken : (base : Contents) (heap prints : List ℕ) (count : ℕ) (saved : List Book) (counts : List ℕ) → CountsNest count counts
    → saved_on base heap prints saved counts ≡ saved_on base heap (take count prints) saved counts
saved-taken base heap prints count = saved-same base heap prints (take count prints) count (λ fewer few. take-take fewer count prints few)

-- ---- all but the innermost level

pub saved-outer : (base : Contents) (heap prints : List ℕ) (saved : List Book) (counts : List ℕ) → length counts ≡ length saved
    → drop 1 (saved_on base heap prints saved counts) ≡ saved_on base heap prints (outer saved) (drop 1 counts)
saved-outer base heap prints [] counts as_many = refl
saved-outer base heap prints (book ∷ books) [] as_many = absurd (omega (arith, as_many))
saved-outer base heap prints (book ∷ books) (count ∷ counts) as_many = refl

pub laters-outer : (saved : List Book) → drop 1 (laters_of saved) ≡ laters_of (outer saved)
laters-outer [] = refl
laters-outer (book ∷ books) = refl

pub length-laters_of : (saved : List Book) → length (laters_of saved) ≡ length saved
length-laters_of [] = refl
length-laters_of (book ∷ books) = ap (λ n. suc n) (length-laters_of books)

pub length-outer : (saved : List Book) (counts : List ℕ) → length counts ≡ length saved → length (drop 1 counts) ≡ length (outer saved)
length-outer [] [] as_many = refl
length-outer [] (count ∷ counts) as_many = absurd (omega (arith, as_many))
length-outer (book ∷ books) [] as_many = absurd (omega (arith, as_many))
length-outer (book ∷ books) (count ∷ counts) as_many = omega (arith, as_many)
