-- Operations on one cell, and what an attempt to make one tells. An operation is a relation of the value that the cell held, the answer, and the value that was written, if one was.
use Rattle.std.specs.Prelude.{◌≡◌, ◌≢◌, ℕ, ◌-◌, ◌<◌, ◌≤◌, ◌⊎◌, Bool, List, [], ◌∷◌, length, Option, Some, None, MatchBool}
use Rattle.ref_table.specs.Calls.{HasNoneOf}
use Rattle.ref_table.specs.Seats.{StmState}
use Rattle.stm_model.specs.CellsState.{Book}
use Rattle.stm_model.specs.Heap.{over, put}
use Rattle.stm_model.specs.History.{entry_after, state}
use Rattle.stm_model.specs.declared.cause.Cause.{Cause}
use Rattle.stm_model.specs.declared.cause.Cause.TheVariants.{ClockEnd}
use Rattle.stm_model.specs.declared.ending.Ending.TheVariants.{Committed, Read, Rolled}
use Rattle.stm_model.specs.World.{entry_of}
use Rattle.txn_run.specs.Callers.{CallerState}
use Rattle.txn_run.specs.Outcomes.{IsSpent, IsWord, Made}
use Rattle.txn_run.specs.declared.callers.Outcome.{Outcome}
use Rattle.txn_run.specs.declared.callers.Outcome.TheVariants as with
use Rattle.ref_views.specs.Typed.{Holds, Replaces}
use Rattle.ref_views.specs.declared.closures.Exchanged.{Exchanged}

-- ---- the operations

-- It answers the value, and writes nothing.
abbrev pub gets : {T : Type 0} → T → T → Option T → Type 0
gets former out written = (out ≡ former) × (written ≡ None)

-- It writes this value, whatever there was.
abbrev pub sets : {T : Type 0} → (value : T) → T → Unit {0} → Option T → Type 0
sets value former out written = written ≡ Some value

-- It writes this value, and answers the former one.
abbrev pub swaps : {T : Type 0} → (value : T) → T → T → Option T → Type 0
swaps value former out written = (out ≡ former) × (written ≡ Some value)

-- It writes the new value where there was the old one, and else nothing, and answers whether it wrote.
abbrev pub compares : {T : Type 0} → (old new : T) → T → Bool → Option T → Type 0
compares old new former wrote written = MatchBool wrote ((former ≡ old) × (written ≡ Some new)) ((former ≢ old) × (written ≡ None))

-- ---- the operations that call a closure. `step f former value left`: called as `f` on `former`, it answers `value` and is left as `left`.

-- It writes what the closure makes of the value.
abbrev pub transforms : {F T : Type 0} → (step : F → T → T → F → Type 0) → (f left : F) → T → Unit {0} → Option T → Type 0
transforms {F} {T} step f left former out written = (value : T) × step f former value left × (written ≡ Some value)

-- It writes what the closure makes of the value, and answers the former one.
abbrev pub gets_and_transforms : {F T : Type 0} → (step : F → T → T → F → Type 0) → (f left : F) → T → T → Option T → Type 0
gets_and_transforms step f left former out written = (out ≡ former) × transforms step f left former tt written

-- It writes what the closure makes of the value, and answers that.
abbrev pub transforms_and_gets : {F T : Type 0} → (step : F → T → T → F → Type 0) → (f left : F) → T → T → Option T → Type 0
transforms_and_gets step f left former out written = step f former out left × (written ≡ Some out)

-- It writes what the closure makes of the value, and answers both.
abbrev pub exchanges : {F T : Type 0} → (step : F → T → T → F → Type 0) → (f left : F) → T → Exchanged T → Option T → Type 0
exchanges step f left former out written = (out.former ≡ former) × transforms_and_gets step f left former out.value written

-- It writes what the closure makes of the value, if it makes one, and answers whether it does.
abbrev pub transforms_if_defined : {F T : Type 0} → (step : F → T → Option T → F → Type 0) → (f left : F) → T → Bool → Option T → Type 0
transforms_if_defined {F} {T} step f left former is_defined written =
    MatchBool is_defined ((value : T) × step f former (Some value) left × (written ≡ Some value)) (step f former None left × (written ≡ None))

-- It answers what the closure makes of the value, and writes nothing.
abbrev pub gets_with : {F T Z : Type 0} → (step : F → T → Z → F → Type 0) → (f left : F) → T → Z → Option T → Type 0
gets_with step f left former out written = step f former out left × (written ≡ None)

-- what is left of the closure: it is as it was, or was called once on this value
abbrev pub called_on : {F T Z : Type 0} → (step : F → T → Z → F → Type 0) → (f left : F) → Option T → Type 0
called_on step f left None = left ≡ f
called_on {F} {T} {Z} step f left (Some former) = (made : Z) × step f former made left

-- ---- what may be written

-- In each lawful heap in which the operation would write this value, it may be put: the heap is lawful then, and one that the heap may become.
abbrev pub MayWrite : {T Out : Type 0} → (T → ℕ) → (ℕ → Option T) → (List ℕ → Type 0) → (List ℕ → List ℕ → Type 0) → ℕ → (T → Out → Option T → Type 0) → Type 0
MayWrite {T} {Out} word_of value_of lawful may address operation =
    (former : T) (out : Out) (value : T) → operation former out (Some value) → (before after : List ℕ) → lawful before
    → Replaces word_of value_of address former value before after → lawful after × may before after

-- ---- on a heap

-- the writes with this value put into the cell, or as they are
abbrev pub put_if : {T : Type 0} → (T → ℕ) → ℕ → Option T → List (ℕ × ℕ) → List (ℕ × ℕ)
put_if word_of address None writes = writes
put_if word_of address (Some value) writes = put writes address (word_of value)

-- The operation was made on this heap, under the writes before, and its write alone came in.
pub record Operated {T Out : Type 0} (word_of : T → ℕ) (value_of : ℕ → Option T) (address : ℕ) (operation : T → Out → Option T → Type 0)
    (heap : List ℕ) (before : Book) (out : Out) (after : Book) : Type 0 where
  pub former : T
  pub written : Option T
  pub held : Holds value_of address former (over heap before.writes)
  pub does : operation former out written
  pub book : after ≡ record before { writes = put_if word_of address written before.writes }

-- ---- by an attempt

-- It committed with this stamp. The entry at that place is its caller's only new one, the cell held `former` before it, and it writes the one value that the operation writes, and nothing else.
pub record CommittedBy {T Out : Type 0} (word_of : T → ℕ) (value_of : ℕ → Option T) (address : ℕ) (operation : T → Out → Option T → Type 0)
    (opening : List ℕ) (before after : CallerState) (out : Out) (stamp : ℕ) : Type 0 where
  pub ending : after.view.attempt.ending ≡ Some (Committed stamp)
  pub low : length before.seen < stamp
  pub high : stamp ≤ length after.seen
  pub entry : entry_after after.seen (stamp - 1) ≡ entry_of after.view.attempt
  pub only : (n : ℕ) → length before.seen ≤ n → n < length after.seen → (entry_after after.seen n).caller ≡ before.number → n ≡ stamp - 1
  pub former : T
  pub written : T
  pub held : Holds value_of address former (state opening after.seen (stamp - 1))
  pub does : operation former out (Some written)
  pub writes : (entry_after after.seen (stamp - 1)).writes ≡ (address, word_of written) ∷ []

-- It wrote nothing, and in the heap at this prefix the cell holds `former`.
pub record ReadBy {T Out : Type 0} (value_of : ℕ → Option T) (address : ℕ) (operation : T → Out → Option T → Type 0)
    (opening : List ℕ) (before after : CallerState) (out : Out) (prefix : ℕ) : Type 0 where
  pub ending : after.view.attempt.ending ≡ Some (Read prefix)
  pub none : HasNoneOf before.number before.seen after.seen
  pub former : T
  pub held : Holds value_of address former (state opening after.seen prefix)
  pub does : operation former out None

-- It was rolled back with this cause, which is never one of a body's own words. Nothing of it was committed. Where the clock is at its end, the operation writes a value on the heap at this prefix. The operation didn't come to the cell's value (`left None`), or it did, and it is the value in the heap at this prefix.
pub record RolledBy {T Out : Type 0} (value_of : ℕ → Option T) (address : ℕ) (operation : T → Out → Option T → Type 0) (left : Option T → Type 0)
    (opening : List ℕ) (before after : CallerState) (cause : Cause) (prefix : ℕ) : Type 0 where
  pub ending : after.view.attempt.ending ≡ Some (Rolled cause prefix)
  pub none : HasNoneOf before.number before.seen after.seen
  pub cells : IsWord cause → ⊥
  pub at_end : (clock : ℕ) → cause ≡ ClockEnd clock
      → (former : T) × (out : Out) × (value : T) × operation former out (Some value) × Holds value_of address former (state opening after.seen prefix)
  pub leaves : left None ⊎ ((former : T) × left (Some former) × Holds value_of address former (state opening after.seen prefix))

-- what it is by its outcome
abbrev pub OperatesAs : {T Out : Type 0} → (T → ℕ) → (ℕ → Option T) → ℕ → (T → Out → Option T → Type 0) → (Option T → Type 0)
    → List ℕ → CallerState → CallerState → Outcome Out → Type 0
OperatesAs word_of value_of address operation left opening before after (with.Committed out stamp) =
    CommittedBy word_of value_of address operation opening before after out stamp
OperatesAs word_of value_of address operation left opening before after (with.Read out prefix) =
    ReadBy value_of address operation opening before after out prefix
OperatesAs word_of value_of address operation left opening before after (with.Rolled cause prefix) =
    RolledBy value_of address operation left opening before after cause prefix

-- One attempt was made to do the operation on this cell, and ended so, or there are no more. `left` says what is left where it was rolled back, by the value that the operation came to.
abbrev pub Operates : {T Out : Type 0} → (T → ℕ) → (ℕ → Option T) → ℕ → (T → Out → Option T → Type 0) → (Option T → Type 0)
    → {S : Type 0} → StmState S → CallerState → CallerState → Outcome Out → Type 0
Operates word_of value_of address operation left stm before after outcome =
    (Made stm.settings.attempts before after × OperatesAs word_of value_of address operation left stm.opening before after outcome)
    ⊎ IsSpent stm.settings.attempts (left None) before after outcome

-- nothing is told of what is left
abbrev pub untold : {T : Type 0} → Option T → Type 0
untold former = Unit {0}

-- the outcome with another answer
abbrev pub answering : {A B : Type 0} → (A → B) → Outcome A → Outcome B
answering answer (with.Committed out stamp) = with.Committed (answer out) stamp
answering answer (with.Read out prefix) = with.Read (answer out) prefix
answering answer (with.Rolled cause prefix) = with.Rolled cause prefix
