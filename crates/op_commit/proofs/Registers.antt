-- A round over the notes of what was read.
use Rattle.std.proofs.Common.{◌≡◌, ℕ, ◌+◌, true, false, List, ◌∷◌, drop, Some, refl}
use Rattle.meta_word.specs.Meta.{meta_of, still_has}
use Rattle.meta_word.specs.declared.meta.TheConstants.{PENDING_BIT}
use Rattle.op_commit.specs.Waits.{wait_word}
use Rattle.stm_model.specs.declared.access.Access.TheVariants.{SetBits}
use Rattle.stm_model.specs.declared.access.Word.TheVariants.{Meta as MetaOf}
use Rattle.stm_model.specs.declared.note.Note.{Note}
use Rattle.stm_model.specs.Accesses.{access_of, answer_of, packed}
use Rattle.stm_model.specs.Waiting.{SawChange, after_wait, next_wait, watch}

module _ (notes : List Note) (index : ℕ) (note : Note) (here : drop index notes ≡ note ∷ drop (index + 1) notes) where
  pub sets : packed (next_wait (watch (drop index notes))) ≡ Some (SetBits (MetaOf note.addr) PENDING_BIT)
  unfolding next_wait access_of
  sets = rw here refl

  pub goes-watching : (own word : ℕ) → still_has own note.version (meta_of word) ≡ true → wait_word own (watch (drop index notes)) word ≡ watch (drop (index + 1) notes)
  unfolding next_wait after_wait answer_of
  goes-watching own word still = rw here (rw still refl)

  pub sees-change : (own word : ℕ) → still_has own note.version (meta_of word) ≡ false → wait_word own (watch (drop index notes)) word ≡ SawChange note (meta_of word)
  unfolding next_wait after_wait answer_of
  sees-change own word changed = rw here (rw changed refl)
