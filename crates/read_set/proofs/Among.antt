-- The note of a cell among notes.
use Rattle.std.proofs.Common.{◌≡◌, ◌≢◌, ℕ, zero, suc, ◌<◌, true, false, nat_eq, List, [], ◌∷◌, length, get_or, Option, Some, None, refl, sym, inl, inr, arith, rules}
use Rattle.std.specs.Prelude.{MatchOption}
use Rattle.std.specs.List.{All, AllByRecursion, Contains, IsDistinct}
use Rattle.std.proofs.lemmas.Bool.Decides.{eqb_tells, nat_tests}
use Rattle.std.proofs.lemmas.List.Elements.{All-cons, All-head, All-nil, All-tail}
use Rattle.stm_model.specs.declared.Addr.{Addr}
use Rattle.stm_model.specs.declared.note.Note.{Note}
use Rattle.stm_model.specs.After.{note_of}
use Rattle.read_set.specs.Reads.{AreApart, cells_of}

-- ---- by its place among the cells

pub unnoted : (notes : List Note) (cell : ℕ) → All (λ other. other ≢ cell) (cells_of notes) → note_of notes cell ≡ None
unnoted [] cell none = refl
unnoted (note ∷ notes) cell none = elim (eqb_tells note.addr.0 cell) [
  | inl same ↦ absurd (All-head (λ other. other ≢ cell) note.addr.0 (cells_of notes) none same.1)
  | inr other ↦ rw other.0 (unnoted notes cell (All-tail (λ c. c ≢ cell) note.addr.0 (cells_of notes) none))
]

other_cell : (first : ℕ) (cells : List ℕ) (place cell : ℕ) → AllByRecursion (λ other. nat_eq first other ≡ false) cells → place < length cells → get_or cells place 0 ≡ cell
    → nat_eq first cell ≡ false
other_cell first [] place cell others within here = absurd (omega arith)
other_cell first (other ∷ cells) zero cell others within here = rw (← here) others.0
other_cell first (other ∷ cells) (suc place) cell others within here = other_cell first cells place cell others.1 (omega arith) here

pub noted_at : (notes : List Note) (place cell : ℕ) (d : Note) → AreApart notes → place < length (cells_of notes) → get_or (cells_of notes) place 0 ≡ cell → note_of notes cell ≡ Some (get_or notes place d)
unfolding IsDistinct
noted_at [] place cell d apart within here = absurd (omega arith)
noted_at (note ∷ notes) zero cell d apart within here =
    let same : nat_eq note.addr.0 cell ≡ true = grind (arith, nat_tests) in
    rw same refl
noted_at (note ∷ notes) (suc place) cell d apart within here =
    let inside : place < length (cells_of notes) = omega arith in
    let other : nat_eq note.addr.0 cell ≡ false = other_cell note.addr.0 (cells_of notes) place cell apart.0 inside here in
    rw other (noted_at notes place cell d apart.1 inside here)

-- ---- what is noted

none_noted : (notes : List Note) (cell : ℕ) → note_of notes cell ≡ None → All (λ note. note.addr.0 ≢ cell) notes
none_noted [] cell none = All-nil (λ note. note.addr.0 ≢ cell)
none_noted (note ∷ notes) cell none = elim (eqb_tells note.addr.0 cell) [
  | inl same ↦ absurd (cc (rw same.0 at none))
  | inr other ↦ All-cons (λ n. n.addr.0 ≢ cell) note notes other.1 (none_noted notes cell (rw other.0 at none))
]

noted : (notes : List Note) (cell : ℕ) (note : Note) → note_of notes cell ≡ Some note → (note.addr.0 ≡ cell) × Contains notes note
noted [] cell note found = absurd (cc found)
noted (first ∷ notes) cell note found = elim (eqb_tells first.addr.0 cell) [
  | inl same ↦ (let is : first ≡ note = cc (rw same.0 at found) in (rw (← is) same.1, (0, omega arith, is)))
  | inr other ↦ (let rest = noted notes cell note (rw other.0 at found) in (rest.0, (suc rest.1.0, omega (arith, rest.1.1), rest.1.2)))
]

pub note_cases : (notes : List Note) (addr : Addr) (found : Option Note) → found ≡ note_of notes addr.0
    → MatchOption found (All (λ note. note.addr.0 ≢ addr.0) notes) (λ note. (note.addr ≡ addr) × Contains notes note)
note_cases notes addr None is = none_noted notes addr.0 (sym is)
note_cases notes addr (Some note) is = let here = noted notes addr.0 note (sym is) in (search (rules, here.0), here.1)
