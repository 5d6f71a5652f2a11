-- The accesses of a read keep what is told.
use Rattle.std.proofs.Common.{◌≡◌, ℕ, zero, suc, ◌<◌, ◌^◌, nat_lt, Bool, true, false, if◌then◌else◌, IsFalse, List, [], ◌∷◌, ◌++◌, length, get_or, refl, ◌∙◌, arith, length-append}
use Rattle.std.specs.List.{All}
use Rattle.std.proofs.lemmas.Grind.{common_steps}
use Rattle.std.proofs.lemmas.List.{get_or_append_left}
use Rattle.meta_word.specs.Meta.{changing_by_another, still_has}
use Rattle.meta_word.specs.declared.meta.Meta.{Meta}
use Rattle.stm_model.specs.declared.access.Ask.TheVariants.{Get}
use Rattle.stm_model.specs.declared.cause.Cause.{Cause}
use Rattle.stm_model.specs.declared.cause.Cause.TheVariants.{Moved, ReadConflict}
use Rattle.stm_model.specs.declared.note.Note.{Note}
use Rattle.stm_model.specs.Accesses.{Answer, Number, OfMeta, addr_of}
use Rattle.stm_model.specs.After.{after_at, answer_with, at, extend_on, extended, meta_read, read_again, stale, stopped, validated}
use Rattle.stm_model.specs.Attempt.{Attempt, Stage, ExtendClock, ExtendNote, ReadMeta, ReadValue, Validate}
use Rattle.stm_model.specs.Heap.{Agrees, over, writes_to}
use Rattle.stm_model.proofs.FirstUseLemmas.{last-agrees}
use Rattle.stm_model.proofs.HeapLemmas.{over_other}
use Rattle.ledger_model.specs.declared.job.Contents.{Contents}
use Rattle.ledger_model.specs.declared.script.Statement.{Statement}
use Rattle.ledger_model.specs.Heard.{hear}
use Rattle.ledger_model.specs.Talk.{Talk, Asks}
use Rattle.ledger_model.specs.Traced.{Progress}
use Rattle.trace_laws.proofs.Told.{GoesOnHere, IsRefusal, IsTold, ToldAt, book_then, hearing_on, heard_whole}
use Rattle.trace_laws.proofs.Going.{goes_at, stops, told_either}

-- each note tells a word
abbrev pub AreOfWords : List Note → Type 0
AreOfWords notes = All (λ note. note.value < 2 ^ 64) notes

last_note : (notes : List Note) (note : Note) → get_or (notes ++ note ∷ []) (length notes) note ≡ note
last_note notes note = grind (arith, common_steps)

last_word : (notes : List Note) (note : Note) → AreOfWords (notes ++ note ∷ []) → note.value < 2 ^ 64
last_word notes note words =
    let here = words (length notes) note (omega (arith, length-append notes (note ∷ []))) in
    rw (last_note notes note) at here

-- Who agrees with one note more agrees with those before.
agrees_before : (notes : List Note) (note : Note) (heap : List ℕ) → Agrees (notes ++ note ∷ []) heap → Agrees notes heap
agrees_before notes note heap agrees = λ k d within.
    let here : k < length (notes ++ note ∷ []) = omega (arith, length-append notes (note ∷ [])) in
    rw (get_or_append_left notes (note ∷ []) d k within) at (agrees k d here)

module _ (base : Contents) (block : List Statement) (g : Progress) (t : Attempt) (cell : ℕ) where
  -- what is asked for, and what follows the answer
  abbrev pub asks : Talk
  asks = Asks (Get (addr_of cell)) g.rest

  module _ (goes : GoesOnHere base block t asks g) where
    reads_at : (stage : Stage) → GoesOnHere base block (at t stage) asks g
    reads_at stage = goes_at base block g t asks stage goes

    reads_again : (left : ℕ) (cause : Cause) → IsRefusal cause → IsTold base block (read_again t cell left cause) g
    unfolding ToldAt
    reads_again zero cause text = stops base block g t asks cause goes text
    reads_again (suc left) cause text = reads_at (ReadMeta cell left)

    reads_meta : (left : ℕ) (first : Meta) (loud newer : Bool)
        → IsTold base block (if loud then read_again t cell left (ReadConflict (addr_of cell) first) else
        if newer then at t (ExtendClock cell left first) else at t (ReadValue cell left first)) g
    unfolding ToldAt
    reads_meta left first true newer = reads_again left (ReadConflict (addr_of cell) first) refl
    reads_meta left first false true = reads_at (ExtendClock cell left first)
    reads_meta left first false false = reads_at (ReadValue cell left first)

    extends : (left : ℕ) (first : Meta) (clock : ℕ) (notes : List Note) → IsTold base block (extend_on t cell left first clock notes) g
    unfolding ToldAt
    extends left first clock [] = record { comes = goes.comes; allowed = goes.allowed; levels = goes.levels }
    extends left first clock (note ∷ behind) = reads_at (ExtendNote cell left first clock note behind)

    -- ---- one note more

    tells : (version value : ℕ) → IsFalse (writes_to t.now.writes cell)
        → (let more : List Note = t.notes ++ record { addr = addr_of cell; version = version; value = value } ∷ [] in
        AreOfWords more → GoesOnHere base block (answer_with (record t { notes = more }) value) (g.rest value) g)
    tells version value unwritten words = record {
      comes = λ heap size agrees.
          let told : get_or (over heap t.now.writes) cell 0 ≡ value = over_other heap t.now.writes cell unwritten ∙ last-agrees t.notes note heap agrees in
          let asked : heard_whole base block heap ≡ hear (g.rest (get_or (over heap t.now.writes) cell 0)) (hearing_on base heap (book_then t) t.saved g) =
          goes.comes heap size (agrees_before t.notes note heap agrees) in
          rw told at asked;
      allowed = goes.allowed.1 value (last_word t.notes note words);
      levels = goes.levels;
    }
      where
        note : Note
        note = record { addr = addr_of cell; version = version; value = value }

    validates : (left : ℕ) (first : Meta) (value : ℕ) (second : Meta) → IsFalse (writes_to t.now.writes cell) → (still : Bool)
        → (let next : Attempt = if still then answer_with (record t { notes = t.notes ++ record { addr = addr_of cell; version = first.version; value = value } ∷ [] }) value
        else read_again t cell left (Moved (addr_of cell) first second) in
        AreOfWords next.notes → IsTold base block next g)
    unfolding ToldAt
    validates left first value second unwritten true words = tells first.version value unwritten words
    validates left first value second unwritten false words = reads_again left (Moved (addr_of cell) first second) refl

-- ---- each access

module _ (base : Contents) (block : List Statement) (g : Progress) (t : Attempt) (here : IsTold base block t g) where
  pub read_meta_told : (cell left : ℕ) (answer : Answer) → GoesOnHere base block t (asks base block g t cell) g
      → IsTold base block (after_at t (ReadMeta cell left) answer) g
  unfolding after_at meta_read
  read_meta_told cell left (OfMeta found) goes = reads_meta base block g t cell goes left found (changing_by_another t.own found) (nat_lt t.prefix found.version)
  read_meta_told cell left answer goes = here

  pub extend_clock_told : (cell left : ℕ) (first : Meta) (answer : Answer) → GoesOnHere base block t (asks base block g t cell) g
      → IsTold base block (after_at t (ExtendClock cell left first) answer) g
  unfolding after_at
  extend_clock_told cell left first (Number clock) goes = extends base block g t cell goes left first clock t.notes
  extend_clock_told cell left first answer goes = here

  pub extend_note_told : (cell left : ℕ) (first : Meta) (clock : ℕ) (note : Note) (behind : List Note) (answer : Answer)
      → GoesOnHere base block t (asks base block g t cell) g → IsTold base block (after_at t (ExtendNote cell left first clock note behind) answer) g
  unfolding after_at extended
  extend_note_told cell left first clock note behind (OfMeta found) goes = told_either base block g (still_has t.own note.version found)
      (extend_on t cell left first clock behind) (stopped t (stale note found))
      (extends base block g t cell goes left first clock behind) (stops base block g t (asks base block g t cell) (stale note found) goes refl)
  extend_note_told cell left first clock note behind answer goes = here

  pub read_value_told : (cell left : ℕ) (first : Meta) (answer : Answer) → GoesOnHere base block t (asks base block g t cell) g
      → IsTold base block (after_at t (ReadValue cell left first) answer) g
  unfolding after_at ToldAt
  read_value_told cell left first (Number value) goes = reads_at base block g t cell goes (Validate cell left first value)
  read_value_told cell left first answer goes = here

  pub validate_told : (cell left : ℕ) (first : Meta) (value : ℕ) (answer : Answer) → GoesOnHere base block t (asks base block g t cell) g
      → IsFalse (writes_to t.now.writes cell) → AreOfWords (after_at t (Validate cell left first value) answer).notes
      → IsTold base block (after_at t (Validate cell left first value) answer) g
  unfolding after_at validated
  validate_told cell left first value (OfMeta found) goes unwritten words = validates base block g t cell goes left first value found unwritten (still_has t.own first.version found) words
  validate_told cell left first value answer goes unwritten words = here
