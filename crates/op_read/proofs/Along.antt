-- An extension along its notes.
use Rattle.std.proofs.Common.{◌≡◌, ℕ, zero, suc, ◌+◌, true, false, arith, List, [], ◌∷◌, drop, slice_get, Some, refl}
use Rattle.meta_word.specs.Meta.{meta_of, still_has}
use Rattle.meta_word.specs.declared.meta.Meta.{Meta}
use Rattle.stm_model.specs.declared.access.Access.TheVariants.{Load}
use Rattle.stm_model.specs.declared.access.Word.TheVariants.{Meta as MetaOf}
use Rattle.stm_model.specs.declared.cause.Cause.TheVariants.{Stale}
use Rattle.stm_model.specs.declared.note.Note.{Note}
use Rattle.stm_model.specs.Accesses.{access_of, answer_of, next_access, next_at}
use Rattle.stm_model.specs.After.{after_at, after_word, at, extend_on, extended, stopped}
use Rattle.stm_model.specs.Attempt.{Attempt, ExtendNote}

drop-at : {X : Type 0} (list : List X) (index : ℕ) (entry : X) → slice_get list index ≡ Some entry → drop index list ≡ entry ∷ drop (suc index) list
drop-at [] index entry here = cc here
drop-at (first ∷ list) zero entry here = cc here
drop-at (first ∷ list) (suc index) entry here = drop-at list index entry here

drop-here : {X : Type 0} (list : List X) (index : ℕ) (entry : X) → slice_get list index ≡ Some entry → drop index list ≡ entry ∷ drop (index + 1) list
drop-here list index entry here =
    let next : index + 1 ≡ suc index = omega arith in
    rw next (drop-at list index entry here)

module _ (t : Attempt) (cell left : ℕ) (first : Meta) (clock index : ℕ) (note : Note) (here : slice_get t.notes index ≡ Some note) where
  -- at a note of this index
  stands : extend_on t cell left first clock (drop index t.notes) ≡ at t (ExtendNote cell left first clock note (drop (index + 1) t.notes))
  stands = rw (drop-here t.notes index note here) refl

  -- its meta word is loaded
  pub loads-note : t.due ≡ [] → next_access (extend_on t cell left first clock (drop index t.notes)) ≡ Some (Load (MetaOf note.addr))
  unfolding next_at access_of
  loads-note nothing = rw stands (rw nothing refl)

  -- Where the cell still stands as noted, the extension goes on to the next note.
  pub validates : (word : ℕ) → t.due ≡ [] → still_has t.own note.version (meta_of word) ≡ true →
      after_word (extend_on t cell left first clock (drop index t.notes)) word ≡ extend_on t cell left first clock (drop (index + 1) t.notes)
  unfolding next_at after_at answer_of extended
  validates word nothing still = rw stands (rw nothing (rw still refl))

  pub ends-stale : (word : ℕ) → t.due ≡ [] → still_has t.own note.version (meta_of word) ≡ false →
      after_word (extend_on t cell left first clock (drop index t.notes)) word ≡ stopped t (Stale note.addr note.version (meta_of word))
  unfolding next_at after_at answer_of extended
  ends-stale word nothing still = rw stands (rw nothing (rw still refl))
