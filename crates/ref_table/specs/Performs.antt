-- One access of a seat: what it needs, and what it makes of the seat.
use Rattle.std.specs.Prelude.{◌≡◌, ◌⊎◌, ℕ, suc, ◌<◌, ◌≤◌, ◌≢◌, nat_eq, if◌then◌else◌, List, ◌∷◌, ◌++◌, [], length, Option, Some, None}
use mathlib.Core.List.{IsPrefix}
use Rattle.meta_word.specs.Meta.{meta_of}
use Rattle.stm_model.specs.Accesses.{Act, ExchangeClock, LoadClock, SetPending, access_of, next, next_access}
use Rattle.stm_model.specs.After.{after_word}
use Rattle.stm_model.specs.Attempt.{Attempt, Ended}
use Rattle.stm_model.specs.History.{Entry, entry_after}
use Rattle.stm_model.specs.Moves.{MayAll, Move, moved_on}
use Rattle.stm_model.specs.Owes.{Owes}
use Rattle.stm_model.specs.Safe.{Safe}
use Rattle.stm_model.specs.World.{Terms, View, World, cells_in, entry_of, since_at, step, wait, world_of}
use Rattle.opacity.specs.Words.{IsTable, table_after, word_found}
use Rattle.stm_model.specs.declared.access.Access.{Access}
use Rattle.stm_model.specs.declared.access.Access.TheVariants.{Store}
use Rattle.stm_model.specs.declared.access.Word.{Word}
use Rattle.stm_model.specs.declared.access.Word.TheVariants.{Clock, Meta as MetaOf}
use Rattle.ref_table.specs.Seats.{SeatState}

-- ---- what it needs

-- The attempt comes from another by local moves alone.
pub record ComesFrom (terms : Terms) (before shown : Attempt) : Type 0 where
  pub moves : List Move
  pub may : MayAll (cells_in terms) terms.limit before moves
  pub reach : moved_on before moves ≡ shown

-- The access is the shown attempt's next one, and if it is the exchange of the clock, what is owed is met.
pub record IsNextOf (lawful : List ℕ → Type 0) (may : List ℕ → List ℕ → Type 0) (terms : Terms) (view : View) (access : Access) (shown : Attempt) : Type 0 where
  pub comes : ComesFrom terms view.attempt shown
  pub is_next : next_access shown ≡ Some access
  pub owes : (old : ℕ) → next shown ≡ Some (ExchangeClock old) → Owes lawful may (cells_in terms) shown.notes shown.now.writes

-- No attempt is in flight, and the access waits for a cell: it sets the pending bit of its meta word.
pub record IsWait (terms : Terms) (view : View) (access : Access) : Type 0 where
  pub cell : ℕ
  pub in_range : cell < cells_in terms
  pub at_rest : view.attempt.stage ≡ Ended
  pub sets : access ≡ access_of (SetPending cell)

-- when a seat of this view may make the access, by what is shown
abbrev pub MayPerform : (List ℕ → Type 0) → (List ℕ → List ℕ → Type 0) → Terms → View → Access → Option Attempt → Type 0
MayPerform lawful may terms view access None = IsWait terms view access
MayPerform lawful may terms view access (Some shown) = IsNextOf lawful may terms view access shown

-- ---- what it is

-- what it answers: the word that it finds, and at a store the word that it stores
unfoldable pub announced : Access → ℕ → ℕ
announced (Store word new) found = new
announced access found = found

-- what a caller knows, with the attempt that is shown
abbrev pub with_shown : View → Option Attempt → View
with_shown view None = view
with_shown view (Some shown) = record view { attempt = shown }

-- The world comes from another by the step of the shown attempt, or where none is shown, by the caller's wait for the cell.
abbrev pub ComesBy : World → ℕ → Access → Option Attempt → World → Type 0
ComesBy w number access None next = (cell : ℕ) × (access ≡ access_of (SetPending cell)) × (next ≡ wait w number cell)
ComesBy w number access (Some shown) next = next ≡ step w number

-- The access is one step from a safe world to a safe world. These were the table's words at its moment, with a history of which the seat had seen a beginning, and the views of all callers. The words after the access show the world after the step, and the seat's caller knows what that world says.
pub record IsStepOfWorld (lawful : List ℕ → Type 0) (may : List ℕ → List ℕ → Type 0) (terms : Terms) (access : Access) (found : ℕ) (before after : SeatState) (shown : Option Attempt) : Type 0 where
  pub words : List ℕ
  pub history : List Entry
  pub view : ℕ → View
  pub later : World
  pub table : IsTable terms words
  pub safe : Safe lawful may terms (world_of terms words history view)
  pub had : IsPrefix before.seen history
  pub knew : view before.number ≡ with_shown before.view shown
  pub answers : found ≡ announced access (word_found terms words access)
  pub comes : ComesBy (world_of terms words history view) before.number access shown later
  pub shows : later ≡ world_of terms (table_after terms words access) later.history later.view
  pub stays_safe : Safe lawful may terms later
  pub has : IsPrefix after.seen later.history
  pub knows : after.view ≡ later.view before.number

-- ---- what it makes of the seat

-- A clock that is found is within its limit, and the owner of a cell is a caller or nobody.
unfoldable pub FoundFits : Terms → Word → ℕ → Type 0
FoundFits terms Clock found = found ≤ terms.limit
FoundFits terms (MetaOf addr) found = (meta_of found).owner ≤ terms.callers
FoundFits terms word found = Unit {0}

-- how many entries were seen afterwards: those that the clock counts, where it was loaded or its exchange won
unfoldable pub seen_then : Option Act → (found before : ℕ) → ℕ
seen_then (Some LoadClock) found before = found
seen_then (Some (ExchangeClock old)) found before = if nat_eq found old then suc old else before
seen_then act found before = before

-- the clock as it was loaded last
unfoldable pub clock_then : Option Act → (found before : ℕ) → ℕ
clock_then (Some LoadClock) found before = found
clock_then act found before = before

-- An entry that wasn't seen before is another caller's, or the attempt's own by the exchange of the clock that it has won, and then it is the last.
abbrev pub IsNewEntry : ℕ → Attempt → ℕ → List Entry → ℕ → Type 0
IsNewEntry number shown found seen n =
    ((entry_after seen n).caller ≢ number) ⊎ ((next shown ≡ Some (ExchangeClock n)) × (found ≡ n) × (entry_after seen n ≡ entry_of shown))

-- The shown attempt has made its access and was led by what that has found. The seat has seen what it had seen before, and more only by the clock.
pub record Performed (shown : Attempt) (found : ℕ) (before after : SeatState) : Type 0 where
  pub view : after.view ≡ record before.view {
    attempt = after_word shown found;
    seen = seen_then (next shown) found before.view.seen;
    since = since_at before.view shown.stage;
    clock = clock_then (next shown) found before.view.clock;
  }
  pub grows : IsPrefix before.seen after.seen
  pub fresh : (n : ℕ) → length before.seen ≤ n → n < length after.seen → IsNewEntry before.number shown found after.seen n
  pub wins : (old : ℕ) → next shown ≡ Some (ExchangeClock old) → found ≡ old → entry_after after.seen old ≡ entry_of shown

-- The wait for a cell stands last among those of the caller, with the word found, and that is all.
abbrev pub Waited : ℕ → ℕ → SeatState → SeatState → Type 0
Waited cell found before after =
    (after.view ≡ record before.view { waits = before.view.waits ++ (cell, meta_of found) ∷ [] }) × (after.seen ≡ before.seen)

-- what the access makes of the seat, by what is shown
abbrev pub Performs : Access → ℕ → SeatState → SeatState → Option Attempt → Type 0
Performs access found before after None = (cell : ℕ) → access ≡ access_of (SetPending cell) → Waited cell found before after
Performs access found before after (Some shown) = Performed shown found before after
