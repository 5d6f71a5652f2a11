-- Notes of distinct cells, with the index of their cells.
use Rattle.std.proofs.Common.{◌≡◌, ℕ, ◌<◌, false, Bool, nat_eq, ◌||◌, cond, List, [], ◌∷◌, ◌++◌, length, map, Option, Some, None, refl, arith}
use Rattle.std.specs.List.{IsDistinct, list_any}
use Rattle.std.proofs.lemmas.Bool.Decides.{nat_tests}
use Rattle.std.proofs.lemmas.Cmp.{nat_eq_equiv}
use Rattle.std.proofs.lemmas.Grind.{common_steps}
use Rattle.std.proofs.lemmas.List.{length-map, map_push}
use Rattle.std.proofs.lemmas.Map.Keys.{IsDistinct-push}
use Rattle.cell_index.specs.Cells.{Cells}
use Rattle.cell_index.proofs.Beside.{index_of_few_more, index_of_none}
use Rattle.stm_model.specs.declared.note.Note.{Note}
use Rattle.stm_model.specs.After.{note_of}
use Rattle.read_set.specs.Indexed.{IsIndexed}
use Rattle.read_set.specs.Reads.{AreApart, cells_of}

AreApart-empty : (notes : List Note) → notes ≡ [] → AreApart notes
unfolding IsDistinct
AreApart-empty notes none = rw none tt

pub IsIndexed-empty : (index : Cells) (notes : List Note) → index.addresses ≡ [] → notes ≡ [] → IsIndexed index notes
IsIndexed-empty index notes empty none = record {
  apart = AreApart-empty notes none;
  cells = index_of_none index _ empty (rw none (omega arith));
}

other_step : (cell first : ℕ) (note : Note) (rest : Option Note) (others : Bool) → cond (nat_eq first cell) (Some note) rest ≡ None
    → (rest ≡ None → others ≡ false) → (nat_eq cell first || others) ≡ false
other_step cell first note rest others none so = grind (arith, common_steps, nat_tests)

none_of_cell : (notes : List Note) (cell : ℕ) → note_of notes cell ≡ None → list_any (nat_eq cell) (map (λ note. note.addr.0) notes) ≡ false
none_of_cell [] cell none = refl
none_of_cell (note ∷ notes) cell none = other_step cell note.addr.0 note _ _ none (none_of_cell notes cell)

pub AreApart-push : (notes : List Note) (note : Note) → AreApart notes → note_of notes note.addr.0 ≡ None → AreApart (notes ++ note ∷ [])
AreApart-push notes note apart none =
    rw map_push (IsDistinct-push nat_eq_equiv (map (λ n. n.addr.0) notes) note.addr.0 apart (none_of_cell notes note.addr.0 none))

-- a note more, while there are few
pub IsIndexed-push : (index : Cells) (notes : List Note) (note : Note) → IsIndexed index notes → note_of notes note.addr.0 ≡ None → length notes < 32 → IsIndexed index (notes ++ note ∷ [])
IsIndexed-push index notes note is none few = record {
  apart = AreApart-push notes note is.apart none;
  cells = rw map_push (index_of_few_more index (cells_of notes) note.addr.0 is.cells (rw (length-map notes _) few));
}
