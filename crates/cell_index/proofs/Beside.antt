-- The index beside a list, through each change of the list.
use Rattle.std.proofs.Common.{◌≡◌, ℕ, ◌+◌, ◌<◌, ◌≤◌, List, [], ◌∷◌, ◌++◌, length, get_or, take, max, refl, ap, subst, sym, ◌∙◌, inl, inr, arith, length-append}
use Rattle.std.proofs.lemmas.Bool.{cases_lt}
use Rattle.std.proofs.lemmas.List.{length-take, length-take-le, take-append-le, take-take, take_all, take_more}
use Rattle.cell_index.specs.Cells.{Cells, IsIndexOf}

-- ---- what it tells

pub has_first : (index : Cells) (cells : List ℕ) → IsIndexOf index cells → length index.addresses ≤ length cells
has_first index cells is =
    let count : length (take (length index.addresses) cells) ≡ length index.addresses = ap (λ (list : List ℕ). length list) (sym is.first) in
    let least = simp length-take at count in
    omega arith

pub has_all : (index : Cells) (cells : List ℕ) → IsIndexOf index cells → 32 < length cells → index.addresses ≡ cells
has_all index cells is many = is.first ∙ take_all (length index.addresses) cells (let same = is.all many in omega arith)

pub within_room : (index : Cells) (cells : List ℕ) → IsIndexOf index cells → length cells ≤ max 32 index.room
within_room index cells is = elim (cases_lt 32 (length cells)) [
  | inl many ↦ (let same = is.all many in let fits = is.fits in omega arith)
  | inr few ↦ omega arith
]

-- ---- what makes one

pub index_of_all : (index : Cells) (cells : List ℕ) → index.addresses ≡ cells → length cells ≤ index.room → IsIndexOf index cells
index_of_all index cells same fits = record {
  first = same ∙ sym (take_all (length index.addresses) cells (rw same (omega arith)));
  all = λ many. ap (λ (list : List ℕ). length list) same;
  fits = rw same fits;
}

pub index_of_none : (index : Cells) (cells : List ℕ) → index.addresses ≡ [] → length cells ≤ 32 → IsIndexOf index cells
index_of_none index cells none few = record {
  first = rw none refl;
  all = λ many. absurd (omega arith);
  fits = rw none (omega arith);
}

-- ---- a change of the list

pub first_of_more : (index : Cells) (cells : List ℕ) (cell : ℕ) → IsIndexOf index cells → index.addresses ≡ take (length index.addresses) (cells ++ cell ∷ [])
first_of_more index cells cell is = is.first ∙ sym (take-append-le (length index.addresses) cells (cell ∷ []) (has_first index cells is))

pub index_of_few_more : (index : Cells) (cells : List ℕ) (cell : ℕ) → IsIndexOf index cells → length cells < 32 → IsIndexOf index (cells ++ cell ∷ [])
index_of_few_more index cells cell is few = record {
  first = first_of_more index cells cell is;
  all = λ many. absurd (omega (arith, length-append cells (cell ∷ [])));
  fits = is.fits;
}

pub index_with_room : (index other : Cells) (cells : List ℕ) → other.addresses ≡ index.addresses → index.room ≤ other.room → IsIndexOf index cells → IsIndexOf other cells
index_with_room index other cells same more is = record {
  first = rw same is.first;
  all = rw same is.all;
  fits = rw same (let fits = is.fits in omega arith);
}

first_of_fewer : (count has : ℕ) (cells : List ℕ) → has ≤ length cells → take count (take has cells) ≡ take (length (take count (take has cells))) (take count cells)
first_of_fewer count has cells within = elim (cases_lt has count) [
  | inl less ↦ (let here : length (take has cells) ≡ has = length-take-le has cells within in
      rw (take_all count (take has cells) (omega arith), here) (sym (take-take has count cells (omega arith))))
  | inr more ↦ (let here : length (take count cells) ≡ count = length-take-le count cells (omega arith) in
      rw (take-take count has cells more, here) (sym (take-take count count cells (omega arith))))
]

pub index_of_fewer : (index other : Cells) (cells : List ℕ) (count : ℕ) → other.addresses ≡ take count index.addresses → other.room ≡ index.room
    → IsIndexOf index cells → IsIndexOf other (take count cells)
index_of_fewer index other cells count kept room is = elim (cases_lt 32 (length cells)) [
  | inl many ↦ (let all : index.addresses ≡ cells = has_all index cells is many in
      let fits = is.fits in
      let same : length index.addresses ≡ length cells = is.all many in
      index_of_all other (take count cells) (rw all at kept) (rw (room, length-take) (omega arith)))
  | inr few ↦ record {
    first = rw kept (subst (λ (list : List ℕ). take count list ≡ take (length (take count list)) (take count cells)) (sym is.first)
        (first_of_fewer count (length index.addresses) cells (has_first index cells is)));
    all = λ many. absurd (let here : length (take count cells) ≤ length cells = rw length-take (omega arith) in omega arith);
    fits = rw (kept, room, length-take) (let fits = is.fits in omega arith);
  }
]

-- an address more of those that the index lacks
pub first_goes_on : (addresses cells : List ℕ) (cell place : ℕ) → addresses ≡ take (length addresses) cells → place ≡ length addresses → place < length cells → cell ≡ get_or cells place 0
    → addresses ++ cell ∷ [] ≡ take (length (addresses ++ cell ∷ [])) cells
first_goes_on addresses cells cell place first at within is =
    let more : take (length addresses + 1) cells ≡ take (length addresses) cells ++ get_or cells (length addresses) 0 ∷ [] = take_more cells (length addresses) 0 (omega arith) in
    let same : cell ≡ get_or cells (length addresses) 0 = rw at at is in
    rw (length-append, more, ← first, ← same) refl
