-- A release or a rollback along its cells.
use Rattle.std.proofs.Common.{◌≡◌, ℕ, ◌+◌, Bool, true, false, List, [], slice_get, Some, refl}
use Rattle.meta_word.specs.Meta.{meta_of}
use Rattle.meta_word.specs.declared.meta.TheConstants.{OWNER_AND_CHANGING_BITS}
use Rattle.op_commit.specs.Back.{backing_at}
use Rattle.op_commit.specs.Buffered.{buffered}
use Rattle.op_commit.specs.declared.back.BackPlace.TheVariants.{Cell}
use Rattle.op_commit.proofs.Buffered.{drop-write}
use Rattle.stm_model.specs.declared.access.Access.TheVariants.{ClearBits}
use Rattle.stm_model.specs.declared.access.Word.TheVariants.{Meta as MetaOf}
use Rattle.stm_model.specs.declared.note.Note.{Note}
use Rattle.stm_model.specs.Accesses.{access_of, answer_of, next_access, next_at}
use Rattle.stm_model.specs.After.{after_at, after_word, ring_if}
use Rattle.stm_model.specs.Attempt.{Attempt, Due}

module _ (t : Attempt) (index : ℕ) (note : Note) (here : slice_get (buffered t.now.writes) index ≡ Some note) where
  -- at a cell of this index the owner's bits are cleared
  pub clears : (whole : Bool) → t.due ≡ [] → next_access (backing_at (Cell index) whole t) ≡ Some (ClearBits (MetaOf note.addr) OWNER_AND_CHANGING_BITS)
  unfolding next_at access_of
  clears true nothing = rw (drop-write t.now.writes index note here) (rw nothing refl)
  clears false nothing = rw (drop-write t.now.writes index note here) (rw nothing refl)

  -- what came due is the ring, if somebody waits
  pub goes-releasing : (whole : Bool) (word : ℕ) (dues : List Due) → t.due ≡ [] → dues ≡ ring_if (meta_of word).pending note.addr.0 →
      after_word (backing_at (Cell index) whole t) word ≡ backing_at (Cell (index + 1)) whole (record t { due = dues })
  unfolding next_at after_at answer_of
  goes-releasing true word dues nothing ring = rw (drop-write t.now.writes index note here) (rw (nothing, ring) refl)
  goes-releasing false word dues nothing ring = rw (drop-write t.now.writes index note here) (rw (nothing, ring) refl)
