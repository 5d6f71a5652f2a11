-- A commit along its notes.
use Rattle.std.proofs.Common.{◌≡◌, ℕ, ◌+◌, ◌-◌, arith, true, false, List, [], ◌∷◌, drop, Option, Some, refl}
use Rattle.meta_word.specs.Meta.{meta_of, meta_word, still_has}
use Rattle.meta_word.specs.Status.{status_of}
use Rattle.meta_word.specs.declared.meta.TheConstants.{CHANGING_BIT}
use Rattle.op_commit.specs.Commit.{IsCommitting, in_preparation, stamped}
use Rattle.op_commit.specs.declared.commit.CommitOp.{CommitOp}
use Rattle.stm_model.specs.declared.access.Access.TheVariants.{Load, SetBits, Store, Swap}
use Rattle.stm_model.specs.declared.access.Word.TheVariants.{Meta as MetaOf}
use Rattle.stm_model.specs.declared.cause.Addr.{Addr}
use Rattle.stm_model.specs.declared.cause.Cause.TheVariants.{Stale}
use Rattle.stm_model.specs.declared.note.Note.{Note}
use Rattle.stm_model.specs.Accesses.{access_of, answer_of, meta_of_cell, next_access, next_at, released, value_of_cell}
use Rattle.stm_model.specs.After.{after_at, after_word, at, validate_on, note_validated, decided, mark_on, prepared, release_on, ring_if, rolled, store_on}
use Rattle.stm_model.specs.Attempt.{Attempt, Decide, Due, Prepare, CommitClock, Write}

-- What is due, and what was rung, is none of a commit's concern.
pub whatever-due : (op : CommitOp) (rung : Option Addr) (t : Attempt) (dues : List Due) → IsCommitting op t → IsCommitting (record op { rung = rung }) (record t { due = dues })
whatever-due op rung t dues commits = record { own = commits.own; serial = commits.serial; tries = commits.tries; limit = commits.limit; writes = commits.writes }

module _ (t : Attempt) (nothing : t.due ≡ []) where
  pub prepares : (word : ℕ) → after_word (at t Prepare) word ≡ prepared t (status_of word)
  unfolding next_at after_at answer_of prepared
  prepares word = rw nothing refl

  pub loads-clock : (lost word writes : ℕ) (dues : List Due) → dues ≡ [] →
      after_word (at (in_preparation t) (CommitClock lost)) word ≡ validate_on (in_preparation (record t { due = dues })) lost word (drop (writes - writes) t.notes)
  unfolding next_at after_at answer_of validate_on
  loads-clock lost word writes dues none =
      let all : writes - writes ≡ 0 = omega arith in
      rw (nothing, none, all) refl

  pub decides : (lost clock word : ℕ) → after_word (at (in_preparation t) (Decide lost clock)) word ≡ decided (in_preparation t) lost clock word
  unfolding next_at after_at answer_of decided
  decides lost clock word = rw nothing refl

-- at a buffered cell
module _ (t : Attempt) (nothing : t.due ≡ []) (index : ℕ) (write : Write) (here : drop index t.now.writes ≡ write ∷ drop (index + 1) t.now.writes) where
  pub marks : next_access (mark_on (in_preparation t) (drop index t.now.writes)) ≡ Some (SetBits (meta_of_cell write.0) CHANGING_BIT)
  unfolding next_at access_of
  marks = rw here (rw nothing refl)

  pub goes-marking : (word : ℕ) (dues : List Due) → dues ≡ [] →
      after_word (mark_on (in_preparation t) (drop index t.now.writes)) word ≡ mark_on (in_preparation (record t { due = dues })) (drop (index + 1) t.now.writes)
  unfolding next_at after_at answer_of
  goes-marking word dues none = rw here (rw (nothing, none) refl)

  pub stores : (stamp : ℕ) → next_access (store_on (stamped t stamp) (drop index t.now.writes)) ≡ Some (Store (value_of_cell write.0) write.1)
  unfolding next_at access_of
  stores stamp = rw here (rw nothing refl)

  pub goes-storing : (stamp word : ℕ) (dues : List Due) → dues ≡ [] →
      after_word (store_on (stamped t stamp) (drop index t.now.writes)) word ≡ store_on (stamped (record t { due = dues }) stamp) (drop (index + 1) t.now.writes)
  unfolding next_at after_at answer_of
  goes-storing stamp word dues none = rw here (rw (nothing, none) refl)

  pub releases : (stamp : ℕ) → next_access (release_on (stamped t stamp) (drop index t.now.writes)) ≡ Some (Swap (meta_of_cell write.0) (meta_word (released stamp)))
  unfolding next_at access_of
  releases stamp = rw here (rw nothing refl)

  pub goes-releasing : (stamp word : ℕ) (dues : List Due) → dues ≡ ring_if (meta_of word).pending write.0 →
      after_word (release_on (stamped t stamp) (drop index t.now.writes)) word ≡ release_on (stamped (record t { due = dues }) stamp) (drop (index + 1) t.now.writes)
  unfolding next_at after_at answer_of
  goes-releasing stamp word dues ring = rw here (rw (nothing, ring) refl)

-- at a note of what was read
module _ (t : Attempt) (nothing : t.due ≡ []) (lost clock index writes : ℕ) (note : Note) (here : drop (index - writes) t.notes ≡ note ∷ drop (index + 1 - writes) t.notes) where
  pub loads-note : next_access (validate_on (in_preparation t) lost clock (drop (index - writes) t.notes)) ≡ Some (Load (MetaOf note.addr))
  unfolding next_at access_of validate_on
  loads-note = rw here (rw nothing refl)

  pub validates : (word : ℕ) (dues : List Due) → dues ≡ [] → still_has t.own note.version (meta_of word) ≡ true →
      after_word (validate_on (in_preparation t) lost clock (drop (index - writes) t.notes)) word
      ≡ validate_on (in_preparation (record t { due = dues })) lost clock (drop (index + 1 - writes) t.notes)
  unfolding next_at after_at answer_of validate_on note_validated
  validates word dues none still = rw here (rw (nothing, none, still) refl)

  pub ends-stale : (word : ℕ) → still_has t.own note.version (meta_of word) ≡ false →
      after_word (validate_on (in_preparation t) lost clock (drop (index - writes) t.notes)) word
      ≡ rolled (record (in_preparation t) { due = [] }) (Stale note.addr note.version (meta_of word))
  unfolding next_at after_at answer_of validate_on note_validated
  ends-stale word stale = rw here (rw (nothing, stale) refl)
