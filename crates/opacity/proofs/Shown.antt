-- What the words of a cause show.
use Rattle.std.proofs.Common.{None, ◌++◌, ◌<◌, length, get_or, length-append, arith, List, [], ◌∷◌, ap, if◌then◌else◌, ◌≡◌, ℕ, true, false, Bool, IfSome, Option, Some, refl, sym, ◌∙◌, inl, inr, subst}
use Rattle.std.specs.List.{All}
use Rattle.std.proofs.lemmas.Bool.Decides.{eqb_tells}
use Rattle.std.proofs.lemmas.List.{get_or_at, get_or_default}
use Rattle.std.proofs.lemmas.List.Elements.{All-head, All-tail}
use Rattle.meta_word.specs.Meta.{owned_by_another}
use Rattle.meta_word.specs.declared.meta.Meta.{Meta}
use Rattle.stm_model.specs.declared.cause.Cause.{Cause}
use Rattle.stm_model.specs.declared.cause.Cause.TheVariants.{Full, Memory, Moved, Retry, Stale, User, WriteConflict}
use Rattle.stm_model.specs.declared.note.Note.{Note}
use Rattle.stm_model.specs.Attempt.{Attempt, cause_at}
use Rattle.stm_model.specs.Evidence.{Evidence, HasMoved}
use Rattle.stm_model.specs.Accesses.{addr_of}
use Rattle.stm_model.specs.After.{note_of, write_refused}
use Rattle.stm_model.specs.Refusing.{IsOfBody, NotesVersion}
use Rattle.stm_model.specs.Safe.{IsShown, NamesNote}
use Rattle.stm_model.specs.Moves.{MayAbandon}

-- what an attempt shows of a cause, by its fields
abbrev pub Shows : Attempt → Cause → Type 0
Shows t cause = Evidence t.own t.settings cause × NamesNote t.notes cause

pub to_shown : (t : Attempt) (cause : Cause) → Shows t cause → IsShown t cause
to_shown t cause shows = record { evidence = shows.0; named = shows.1 }

pub from_shown : (t : Attempt) (cause : Cause) → IsShown t cause → Shows t cause
from_shown t cause shown = (shown.evidence, shown.named)

pub if_shown : (t : Attempt) (found : Option Cause) → IfSome found (Shows t) → IfSome found (IsShown t)
if_shown t None shows = tt
if_shown t (Some cause) shows = to_shown t cause shows

pub if_shows : (t : Attempt) (found : Option Cause) → IfSome found (IsShown t) → IfSome found (Shows t)
if_shows t None shown = tt
if_shows t (Some cause) shown = from_shown t cause shown

some_shown : (found : Option Cause) (cause : Cause) (P : Cause → Type 0) → found ≡ Some cause → IfSome found P → P cause
some_shown found cause P is shown = subst (λ (o : Option Cause). IfSome o P) is shown

body_shown : (t : Attempt) (cause : Cause) → IsOfBody cause → Shows t cause
unfolding Evidence NamesNote
body_shown t Retry own = (tt, tt)
body_shown t (User code) own = (tt, tt)
body_shown t Memory own = (tt, tt)
body_shown t (Full used blocks) own = (own, tt)
body_shown t cause own = absurd own

-- A body rolls back for a cause that is shown.
pub abandon_shown : (t : Attempt) → IfSome (cause_at t.stage) (Shows t) → (cause : Cause) → MayAbandon t cause → Shows t cause
abandon_shown t refused cause (inl own) = body_shown t cause own
abandon_shown t refused cause (inr is) = some_shown (cause_at t.stage) cause (Shows t) is refused

-- A first write is refused for a cause that is shown, where the cell has moved unless another owns it.
pub write_shown : (t : Attempt) (cell : ℕ) (first latest : Meta) → (owned_by_another t.own latest ≡ false → HasMoved t.own first latest) → Shows t (write_refused t.own cell first latest)
unfolding Evidence NamesNote
write_shown t cell first latest moved = go (owned_by_another t.own latest) refl
  where
    go : (b : Bool) → owned_by_another t.own latest ≡ b → Shows t (if b then WriteConflict (addr_of cell) latest else Moved (addr_of cell) first latest)
    go true another = (another, tt)
    go false free = (moved free, tt)

-- Another owns it.
pub conflict_shown : (t : Attempt) (cell : ℕ) (first latest : Meta) → owned_by_another t.own latest ≡ true → Shows t (write_refused t.own cell first latest)
conflict_shown t cell first latest another = write_shown t cell first latest (λ free. let never : true ≡ false = sym another ∙ free in cc)

-- one of a list
pub all_at : (P : Note → Type 0) (front behind notes : List Note) (note : Note) → notes ≡ front ++ note ∷ behind → All P notes → P note
all_at P front behind notes note is all =
    let whole : All P (front ++ note ∷ behind) = rw is at all in
    let within : length front < length (front ++ note ∷ behind) = omega (arith, length-append front (note ∷ behind)) in
    subst (λ (n : Note). P n) (get_or_at front note behind note (length front) refl) (whole (length front) note within)

-- the note that is found is one of them, and its cell's
pub found_note : (P : Note → Type 0) (notes : List Note) (cell : ℕ) (note : Note) → All P notes → note_of notes cell ≡ Some note → P note × (note.addr.0 ≡ cell)
found_note P [] cell note all is = cc
found_note P (first ∷ notes) cell note all is = elim (eqb_tells first.addr.0 cell) [
  | inl same ↦
      let here : Some first ≡ Some note = rw same.0 at is in
      let one : first ≡ note = cc in
      (subst (λ (n : Note). P n) one (All-head P first notes all), ap (λ (n : Note). n.addr.0) (sym one) ∙ same.1)
  | inr other ↦
      let rest : note_of notes cell ≡ Some note = rw other.0 at is in
      found_note P notes cell note (All-tail P first notes all) rest
]

-- each note is one of them
noted_itself : (notes : List Note) → All (λ note. NotesVersion notes note.addr note.version) notes
noted_itself notes = λ k d within. (k, get_or notes k d, within, get_or_default notes k (get_or notes k d) d within, (refl, refl))

-- A noted cell is named by its note.
pub names_checked : (front behind notes : List Note) (note : Note) (meta : Meta) → notes ≡ front ++ note ∷ behind → NamesNote notes (Stale note.addr note.version meta)
unfolding NamesNote
names_checked front behind notes note meta is = all_at (λ (each : Note). NotesVersion notes each.addr each.version) front behind notes note is (noted_itself notes)

pub names_found : (notes : List Note) (cell : ℕ) (note : Note) (meta : Meta) → note_of notes cell ≡ Some note → NamesNote notes (Stale note.addr note.version meta)
unfolding NamesNote
names_found notes cell note meta is = (found_note (λ (each : Note). NotesVersion notes each.addr each.version) notes cell note (noted_itself notes) is).0
