-- Tables, seats, makers and marks, as their holders see them.
use Rattle.std.specs.Prelude.{◌≡◌, ℕ, cond, leb, List, length}
use Rattle.atomic_table.specs.Seated.{TableId}
use Rattle.opacity.specs.Plain.{terms_of}
use Rattle.stm_model.specs.History.{Entry}
use Rattle.stm_model.specs.World.{Terms, View}
use Rattle.stm_model.specs.declared.settings.Settings.{Settings}
use Rattle.ref_table.specs.declared.lists.Lists.{Lists}

-- which table it is, the law of its heaps, the heap with which it opened, and what it is set to
pub record StmState (S : Type 0) : Type 0 where
  pub table : TableId
  pub law : S
  pub opening : List ℕ
  pub settings : Settings

-- what stays as it is in a table
abbrev pub terms_in : {S : Type 0} → StmState S → Terms
terms_in stm = terms_of stm.opening stm.settings.callers stm.settings.clock

-- the table that it fits, its number, what its caller knows, the entries of the history that it has seen, and the lists that it lends
pub record SeatState : Type 0 where
  pub table : TableId
  pub number : ℕ
  pub view : View
  pub seen : List Entry
  pub lists : Lists

-- the table, how many numbers were given, which were gathered, each with how many entries its caller had seen, and the entries of the history that were seen
pub record MakerState : Type 0 where
  pub table : TableId
  pub given : ℕ
  pub gathered : List (ℕ × ℕ)
  pub seen : List Entry

-- the table, and the entries of the history that were seen
pub record MarkState : Type 0 where
  pub table : TableId
  pub seen : List Entry

-- the longer of two lists
abbrev pub longer : List Entry → List Entry → List Entry
longer one other = cond (leb (length one) (length other)) other one

-- the shorter of them
abbrev pub shorter : List Entry → List Entry → List Entry
shorter one other = cond (leb (length one) (length other)) one other

-- It fits the same table and has the same number and the same lists.
pub record IsSameSeat (before after : SeatState) : Type 0 where
  pub table : after.table ≡ before.table
  pub number : after.number ≡ before.number
  pub lists : after.lists ≡ before.lists
