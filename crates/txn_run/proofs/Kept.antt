-- What stays of an attempt, whatever a body asks it: its causes are those of cells, no more levels are open than may be, and no before-commit body has its turn. Here t is an attempt.
use Rattle.std.proofs.Common.{◌≡◌, ℕ, ◌≤◌, Bool, true, false, nat_eq, nat_lt, if◌then◌else◌, drop, List, [], ◌∷◌, length, Option, Some, None, Result, Ok, Err, refl, sym, ap, subst, ◌∙◌, inl, inr, arith}
use Rattle.std.specs.Prelude.{IfSome}
use Rattle.std.specs.Map.{lookup}
use Rattle.stm_model.specs.After.{note_of, release_level_on}
use Rattle.stm_model.specs.Attempt.{Attempt, Late, Ready, Stage, Stopped, Write}
use Rattle.stm_model.specs.CellsState.{Book, CellsState, outer}
use Rattle.stm_model.specs.Heap.{writes_to}
use Rattle.stm_model.specs.Moves.{Takes, asked_at, asked_going, asked_stopped, moved, read_buffered, read_noted, undo_level}
use Rattle.stm_model.specs.Refusing.{IsOfCells, IsOfRead, IsOfWrite, RefusesLevel, RefusesWrite, deepest}
use Rattle.stm_model.specs.Telling.{Refused}
use Rattle.stm_model.specs.declared.access.Ask.{Ask}
use Rattle.stm_model.specs.declared.access.Ask.TheVariants.{Abandon, Enter, Finish, Get, Hook, Keep, Later, Set, Undo}
use Rattle.stm_model.specs.declared.cause.Cause.{Cause}
use Rattle.stm_model.specs.declared.cause.Cause.TheVariants.{Memory, Moved, ReadConflict, Stale, WriteConflict}
use Rattle.stm_model.specs.declared.note.Note.{Note}
use Rattle.txn_drive.specs.Going.{IsAsked}
use Rattle.txn_drive.proofs.Turning.{turn_led}
use Rattle.txn_run.specs.Flights.{IsOfBodies, Tells}

-- ---- causes

of_read : (reads : List Note) (address : ℕ) (cause : Cause) → IsOfRead reads address cause → IsOfCells cause
of_read reads address (ReadConflict cell meta) is = tt
of_read reads address (Moved cell first second) is = tt
of_read reads address (Stale cell version meta) is = tt
of_read reads address Memory is = tt
of_read reads address cause is = absurd is

of_write : (reads : List Note) (address : ℕ) (cause : Cause) → IsOfWrite reads address cause → IsOfCells cause
of_write reads address (WriteConflict cell meta) is = tt
of_write reads address (Moved cell first second) is = tt
of_write reads address (Stale cell version meta) is = tt
of_write reads address cause is = absurd is

of_memory : (cause : Cause) → cause ≡ Memory → IsOfCells cause
of_memory cause is = subst IsOfCells (sym is) tt

of_level : (levels : ℕ) (cause : Cause) → RefusesLevel levels cause → IsOfCells cause
of_level levels cause (inl deep) = subst IsOfCells (sym deep.1) refl
of_level levels cause (inr memory) = of_memory cause memory.1

of_first_write : (before : CellsState) (address : ℕ) (cause : Cause) → RefusesWrite before address cause → IsOfCells cause
of_first_write before address cause (inl first) = of_write before.reads address cause first.1
of_first_write before address cause (inr memory) = of_memory cause memory

-- The causes of cells, or none.
abbrev AreOfCells : CellsState → Type 0
AreOfCells state = IfSome state.cause IsOfCells

fresh_or_again : (fresh : Cause → Type 0) (cause : Cause) (before after : CellsState) (was : Option Cause) → before.cause ≡ was → Refused fresh cause before after
    → ((cause : Cause) → fresh cause → IsOfCells cause) → IfSome was IsOfCells → IsOfCells cause
fresh_or_again fresh cause before after None is refused of_cells known = of_cells cause (refused.first is)
fresh_or_again fresh cause before after (Some earlier) is refused of_cells known = subst IsOfCells (sym (refused.again earlier is)) known

refused_cause : (fresh : Cause → Type 0) (cause : Cause) (before after : CellsState) → Refused fresh cause before after
    → ((cause : Cause) → fresh cause → IsOfCells cause) → AreOfCells before → AreOfCells after
refused_cause fresh cause before after refused of_cells known =
    subst AreOfCells (sym refused.is) (fresh_or_again fresh cause before after before.cause refl refused of_cells known)

same_cause : (before after : CellsState) → after.cause ≡ before.cause → AreOfCells before → AreOfCells after
same_cause before after same known = subst (λ (cause : Option Cause). IfSome cause IsOfCells) (sym same) known

abbrev cause_in : CellsState → Option Cause
cause_in state = state.cause

module _ (lawful : List ℕ → Type 0) (before after : CellsState) where
  pub causes_kept : (ask : Ask) (told : Result (Option ℕ) Cause) → IsOfBodies ask → Tells lawful ask told before after → AreOfCells before → AreOfCells after
  unfolding IsOfBodies Tells
  causes_kept (Get addr) (Ok (Some value)) body tells known = same_cause before after (ap cause_in tells.only_reads) known
  causes_kept (Get addr) (Ok None) body tells known = absurd tells
  causes_kept (Get addr) (Err cause) body tells known = refused_cause _ cause before after tells (λ each is. of_read before.reads addr.0 each is.is) known
  causes_kept (Set addr value) (Ok told) body tells known = same_cause before after (ap cause_in tells.is) known
  causes_kept (Set addr value) (Err cause) body tells known = refused_cause _ cause before after tells (of_first_write before addr.0) known
  causes_kept Enter (Ok told) body tells known = same_cause before after (ap cause_in tells.is) known
  causes_kept Enter (Err cause) body tells known = refused_cause _ cause before after tells (of_level (length before.saved)) known
  causes_kept Keep told body tells known = same_cause before after (ap cause_in tells) known
  causes_kept Undo told body tells known = same_cause before after (ap cause_in tells) known
  causes_kept (Hook phase token) (Ok told) body tells known = same_cause before after (ap cause_in tells.is) known
  causes_kept (Hook phase token) (Err cause) body tells known = refused_cause _ cause before after tells of_memory known
  causes_kept (Later token) (Ok told) body tells known = same_cause before after (ap cause_in tells.is) known
  causes_kept (Later token) (Err cause) body tells known = refused_cause _ cause before after tells of_memory known
  causes_kept Finish told body tells known = absurd body
  causes_kept (Abandon cause) told body tells known = absurd body

-- ---- levels

-- No more levels are open than may be.
abbrev IsNested : List Book → Type 0
IsNested saved = length saved ≤ deepest

abbrev saved_in : CellsState → List Book
saved_in state = state.saved

outer_nested : (saved : List Book) → IsNested saved → IsNested (outer saved)
outer_nested [] nested = nested
outer_nested (book ∷ books) nested = omega arith

same_levels : (saved books : List Book) → books ≡ saved → IsNested saved → IsNested books
same_levels saved books same nested = subst IsNested (sym same) nested

module _ (lawful : List ℕ → Type 0) (before after : CellsState) where
  pub levels_kept : (ask : Ask) (told : Result (Option ℕ) Cause) → IsOfBodies ask → Tells lawful ask told before after → IsNested before.saved → IsNested after.saved
  unfolding IsOfBodies Tells
  levels_kept (Get addr) (Ok (Some value)) body tells nested = same_levels before.saved after.saved (ap saved_in tells.only_reads) nested
  levels_kept (Get addr) (Ok None) body tells nested = absurd tells
  levels_kept (Get addr) (Err cause) body tells nested = same_levels before.saved after.saved (ap saved_in tells.is) nested
  levels_kept (Set addr value) (Ok told) body tells nested = same_levels before.saved after.saved (ap saved_in tells.is) nested
  levels_kept (Set addr value) (Err cause) body tells nested = same_levels before.saved after.saved (ap saved_in tells.is) nested
  levels_kept Enter (Ok told) body tells nested = subst IsNested (sym (ap saved_in tells.is)) tells.room
  levels_kept Enter (Err cause) body tells nested = same_levels before.saved after.saved (ap saved_in tells.is) nested
  levels_kept Keep told body tells nested = subst IsNested (sym (ap saved_in tells)) (outer_nested before.saved nested)
  levels_kept Undo told body tells nested = subst IsNested (sym (ap saved_in tells)) (outer_nested before.saved nested)
  levels_kept (Hook phase token) (Ok told) body tells nested = same_levels before.saved after.saved (ap saved_in tells.is) nested
  levels_kept (Hook phase token) (Err cause) body tells nested = same_levels before.saved after.saved (ap saved_in tells.is) nested
  levels_kept (Later token) (Ok told) body tells nested = same_levels before.saved after.saved (ap saved_in tells.is) nested
  levels_kept (Later token) (Err cause) body tells nested = same_levels before.saved after.saved (ap saved_in tells.is) nested
  levels_kept Finish told body tells nested = absurd body
  levels_kept (Abandon cause) told body tells nested = absurd body

-- ---- the turn of a before-commit body

if_turn : (b : Bool) (t u : Attempt) (turn : ℕ) → t.turn ≡ turn → u.turn ≡ turn → (if b then t else u).turn ≡ turn
if_turn true t u turn first second = first
if_turn false t u turn first second = second

noted_turn : (t : Attempt) (cell : ℕ) (note : Option Note) → (read_noted t cell note).turn ≡ t.turn
noted_turn t cell (Some note) = refl
noted_turn t cell None = refl

buffered_turn : (t : Attempt) (cell : ℕ) (value : Option ℕ) → (read_buffered t cell value).turn ≡ t.turn
buffered_turn t cell (Some value) = refl
buffered_turn t cell None = noted_turn t cell (note_of t.notes cell)

level_turn : (t : Attempt) (kept behind : List Write) → (release_level_on t kept behind).turn ≡ t.turn
level_turn t kept [] = refl
level_turn t kept (write ∷ behind) = refl

undo_turn : (t : Attempt) (levels : List Book) → (undo_level t levels).turn ≡ t.turn
undo_turn t [] = refl
undo_turn t (former ∷ books) = level_turn t former.writes (drop (length former.writes) t.now.writes)

going_turn : (t : Attempt) (ask : Ask) → IsOfBodies ask → (asked_going t ask).turn ≡ t.turn
unfolding asked_going IsOfBodies
going_turn t (Get cell) body = buffered_turn t cell.0 (lookup (nat_eq cell.0) t.now.writes)
going_turn t (Set cell value) body = if_turn (writes_to t.now.writes cell.0) _ _ t.turn refl refl
going_turn t Enter body = if_turn (nat_lt (length t.saved) deepest) _ _ t.turn refl refl
going_turn t Keep body = refl
going_turn t Undo body = undo_turn t t.saved
going_turn t (Hook phase token) body = refl
going_turn t (Later token) body = refl
going_turn t Finish body = absurd body
going_turn t (Abandon cause) body = absurd body

stopped_turn : (t : Attempt) (cause : Cause) (ask : Ask) → IsOfBodies ask → (asked_stopped t cause ask).turn ≡ t.turn
unfolding asked_stopped IsOfBodies
stopped_turn t cause Keep body = refl
stopped_turn t cause Undo body = refl
stopped_turn t cause Finish body = absurd body
stopped_turn t cause (Abandon other) body = absurd body
stopped_turn t cause ask body = refl

asked_turn : (t : Attempt) (stage : Stage) (ask : Ask) → IsOfBodies ask → (asked_at t stage ask).turn ≡ t.turn
unfolding asked_at
asked_turn t (Ready told) ask body = going_turn t ask body
asked_turn t (Late token) ask body = going_turn t ask body
asked_turn t (Stopped cause) ask body = stopped_turn t cause ask body
asked_turn t stage ask body = refl

pub turn_kept : (t u : Attempt) (ask : Ask) → IsOfBodies ask → IsAsked t ask u → u.turn ≡ t.turn
unfolding moved
turn_kept t u ask body (inl leads) = turn_led (moved t (Takes ask)) u leads ∙ asked_turn t t.stage ask body
turn_kept t u ask body (inr refused) = ap (λ (a : Attempt). a.turn) refused.stops
