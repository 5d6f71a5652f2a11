-- Private: the rule by the key of a table, what the fields of a table, a seat, a mark and the maker keep, and what a step tells.
use Rattle.std.specs.Prelude.{◌≡◌, ◌≢◌, ℕ, ◌<◌, ◌≤◌, ◌/◌, ◌^◌, List, [], length, Option}
use mathlib.Core.List.{IsPrefix}
use Rattle.atomic_table.specs.Seated.{TableId}
use Rattle.atomic_table.specs.Table.{Allows, Me, State}
use Rattle.opacity.specs.Plain.{terms_of}
use Rattle.opacity.specs.Words.{effect}
use Rattle.stm_model.specs.Accesses.{word_of}
use Rattle.stm_model.specs.Attempt.{Attempt}
use Rattle.stm_model.specs.History.{entry_after}
use Rattle.stm_model.specs.World.{place_of, words_in}
use Rattle.stm_model.specs.declared.access.Access.{Access}
use Rattle.stm_model.specs.declared.access.Access.TheVariants.{Load, Store}
use Rattle.stm_model.specs.declared.access.Word.TheVariants.{Clock, Status}
use Rattle.stm_model.specs.declared.settings.Settings.{Settings}
use Rattle.stm_model.specs.World.{Terms}
use Rattle.ref_table.specs.Knowledge.{Caller, Knowledge, Maker, Mark, first_view}
use Rattle.ref_table.specs.Limits.{TableFits}
use Rattle.ref_table.specs.Parts.{gathered_of, learned}
use Rattle.ref_table.specs.Performs.{FoundFits, IsStepOfWorld, Performs, announced}
use Rattle.ref_table.specs.Rule.{Keeps}
use Rattle.ref_table.specs.Seats.{SeatState, StmState, terms_in}
use Rattle.ref_table.specs.Seen.{SafeMaker, SafeSeat}
use Rattle.ref_table.specs.declared.lists.Lists.{Lists}
use Rattle.ref_table.specs.declared.rule.Key.{Key}

-- ---- the rule

-- the rule under the law, the terms and the settings of a table
abbrev pub KeepsIn : {S : Type 0} → (S → List ℕ → Type 0) → (S → List ℕ → List ℕ → Type 0) → StmState S → State Unit Knowledge → Type 0
KeepsIn lawful may stm = Keeps (lawful stm.law) (may stm.law) (terms_in stm) stm.settings

-- a table with this key, as its holder sees it
abbrev pub stm_of : {S : Type 0} → TableId → Key S → StmState S
stm_of table key = record { table = table; law = key.law.value; opening = key.opening.value.items; settings = key.settings }

-- the same by the key of the table
abbrev pub KeptBy : {S : Type 0} → (S → List ℕ → Type 0) → (S → List ℕ → List ℕ → Type 0) → Key S → State Unit Knowledge → Type 0
KeptBy lawful may key = Keeps (lawful key.law.value) (may key.law.value) (terms_of key.opening.value.items key.settings.callers key.settings.clock) key.settings

-- ---- what the fields keep

-- of a table: it has the words of such a layout and no slots, and its settings and its cells are those of its key
pub record HoldsTable {S : Type 0} (table : TableId) (key : Key S) (kept : Settings) (count : ℕ) : Type 0 where
  pub words : table.words ≡ words_in (terms_of key.opening.value.items key.settings.callers key.settings.clock)
  pub slots : table.slots ≡ 0
  pub layout : TableFits (length key.opening.value.items) key.settings
  pub same : key.settings ≡ kept
  pub cells : length key.opening.value.items ≡ count

-- of a caller's seat
pub record HoldsSeat (own latest loaded : ℕ) (me : Me Unit Knowledge) : Type 0 where
  pub whose : me.0.whose ≡ Caller own
  pub slots : me.1 ≡ []
  pub serial : latest ≡ me.0.view.attempt.serial
  pub clock : loaded ≡ me.0.view.clock

-- of the maker's
pub record HoldsMaker (count : ℕ) (me : Me Unit Knowledge) : Type 0 where
  pub whose : me.0.whose ≡ Maker count (gathered_of me.0.whose)
  pub slots : me.1 ≡ []

-- of a mark's
pub record HoldsMark (me : Me Unit Knowledge) : Type 0 where
  pub whose : me.0.whose ≡ Mark
  pub slots : me.1 ≡ []

-- ---- what a step tells

-- The access keeps the rule, and tells this of what is found and of what the seat knows before and after.
abbrev pub AllowsAccess : (State Unit Knowledge → Type 0) → (callers id : ℕ) → Me Unit Knowledge → Access → (ℕ → Knowledge → Knowledge → Type 0) → Type 0
AllowsAccess holds callers id me access told =
    Allows holds 0 id me (place_of callers (word_of access)) (effect access) (λ found after. told (announced access found) me.0 after.0 × (after.1 ≡ me.1))

-- a caller's seat with these lists, as its holder sees it
abbrev pub seat_of : TableId → ℕ → Lists → Knowledge → SeatState
seat_of table number lists known = record { table = table; number = number; view = known.view; seen = known.seen; lists = lists }

-- what an access of a seat tells
pub record Tells (lawful : List ℕ → Type 0) (may : List ℕ → List ℕ → Type 0) (terms : Terms) (table : TableId) (number : ℕ) (access : Access) (shown : Option Attempt) (found : ℕ) (before after : Knowledge) : Type 0 where
  pub whose : after.whose ≡ Caller number
  pub fits : FoundFits terms (word_of access) found
  pub steps : (lists : Lists) → IsStepOfWorld lawful may terms access found (seat_of table number lists before) (seat_of table number lists after) shown
  pub performs : (lists : Lists) → Performs access found (seat_of table number lists before) (seat_of table number lists after) shown
  pub safe_seat : (lists : Lists) → SafeSeat lawful may terms (seat_of table number lists after)

-- what a load tells a caller that learns what was joined to its seat: both lists are beginnings of what it has seen then, and no entry of its own comes in
pub record Learns (lawful : List ℕ → Type 0) (may : List ℕ → List ℕ → Type 0) (terms : Terms) (table : TableId) (number : ℕ) (before after : Knowledge) : Type 0 where
  pub knows : after ≡ learned before
  pub own : IsPrefix before.seen after.seen
  pub others : IsPrefix before.joined after.seen
  pub fresh : (n : ℕ) → length before.seen ≤ n → n < length after.seen → (entry_after after.seen n).caller ≢ number
  pub safe_seat : (lists : Lists) → SafeSeat lawful may terms (seat_of table number lists after)

-- what any seat may rely on
pub record Confirms (lawful : List ℕ → Type 0) (may : List ℕ → List ℕ → Type 0) (terms : Terms) (settings : Settings) (table : TableId) (known : Knowledge) : Type 0 where
  pub caller : (number : ℕ) (lists : Lists) → known.whose ≡ Caller number → SafeSeat lawful may terms (seat_of table number lists known)
  pub maker : (given : ℕ) (gathered : List (ℕ × ℕ)) → known.whose ≡ Maker given gathered →
      SafeMaker lawful may terms record { table = table; given = given; gathered = gathered; seen = known.seen }
  pub rests : (given : ℕ) (gathered : List (ℕ × ℕ)) → known.whose ≡ Maker given gathered → known.view ≡ first_view 0 settings 0
  pub joined : length known.joined ≤ length known.seen → IsPrefix known.joined known.seen

-- the same under the law of a table
abbrev pub ConfirmsIn : {S : Type 0} → (S → List ℕ → Type 0) → (S → List ℕ → List ℕ → Type 0) → StmState S → TableId → Knowledge → Type 0
ConfirmsIn lawful may stm table known = Confirms (lawful stm.law) (may stm.law) (terms_in stm) stm.settings table known

-- and so what a caller learns
abbrev pub LearnsIn : {S : Type 0} → (S → List ℕ → Type 0) → (S → List ℕ → List ℕ → Type 0) → StmState S → ℕ → Knowledge → Knowledge → Type 0
LearnsIn lawful may stm number before after = Learns (lawful stm.law) (may stm.law) (terms_in stm) stm.table number before after

-- ---- what is kept beside what a seat knows

-- the serial of a caller's latest attempt after an access: a store of a status word brings one
unfoldable pub serial_then : Access → ℕ → ℕ
serial_then (Store (Status caller) new) serial = new / 2 ^ 2
serial_then access serial = serial

-- the clock as it was loaded last, after an access
unfoldable pub clock_kept : Access → (found clock : ℕ) → ℕ
clock_kept (Load Clock) found clock = found
clock_kept access found clock = clock
