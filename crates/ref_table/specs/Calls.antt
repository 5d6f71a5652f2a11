-- What the calls of a table, of its maker and of seats ensure.
use Rattle.std.specs.Prelude.{◌≡◌, ◌≢◌, ℕ, ◌+◌, ◌<◌, ◌≤◌, ◌∷◌, [], List, length}
use mathlib.Core.List.{IsPrefix}
use Rattle.stm_model.specs.History.{Entry, entry_after}
use Rattle.stm_model.specs.declared.settings.Settings.{Settings}
use Rattle.ref_table.specs.Knowledge.{first_view}
use Rattle.ref_table.specs.Seats.{MakerState, SeatState, StmState, longer}
use Rattle.ref_table.specs.declared.lists.Lists.{Lists}

-- Over this law, opening heap and settings nothing was given or seen yet.
pub record IsOpened {S : Type 0} (given : S) (heap : List ℕ) (limits : Settings) (maker : MakerState) (stm : StmState S) : Type 0 where
  pub table : maker.table ≡ stm.table
  pub law : stm.law ≡ given
  pub opening : stm.opening ≡ heap
  pub settings : stm.settings ≡ limits
  pub none_given : maker.given ≡ 0
  pub gathered : maker.gathered ≡ []
  pub seen : maker.seen ≡ []

-- The lists are empty.
pub record AreEmpty (lists : Lists) : Type 0 where
  pub reads : lists.reads.notes ≡ []
  pub writes : lists.writes.writes ≡ []
  pub hooks : lists.handlers.hooks ≡ []
  pub laters : lists.handlers.laters ≡ []
  pub levels : lists.levels ≡ []

-- None of the entries that came in is this caller's.
abbrev pub HasNoneOf : ℕ → List Entry → List Entry → Type 0
HasNoneOf number before after = (n : ℕ) → length before ≤ n → n < length after → (entry_after after n).caller ≢ number

-- The next number was given, to a caller that has made no attempt and has seen what the maker has seen, none of it its own.
pub record IsDealt (limits : Settings) (before after : MakerState) (seat : SeatState) : Type 0 where
  pub maker : after ≡ record before { given = before.given + 1 }
  pub table : seat.table ≡ before.table
  pub number : seat.number ≡ before.given + 1
  pub view : seat.view ≡ first_view seat.number limits (length seat.seen)
  pub seen : seat.seen ≡ before.seen
  pub fresh : HasNoneOf seat.number [] seat.seen
  pub lists : AreEmpty seat.lists

-- The one has seen what both had seen, and both had seen a beginning of that.
pub record SeesBoth (before other after : List Entry) : Type 0 where
  pub seen : after ≡ longer before other
  pub own : IsPrefix before after
  pub others : IsPrefix other after

-- The caller's number was gathered, with how many entries it had seen.
pub record IsGathered (before after : MakerState) (seat : SeatState) : Type 0 where
  pub table : after.table ≡ before.table
  pub given : after.given ≡ before.given
  pub gathered : after.gathered ≡ (seat.number, length seat.seen) ∷ before.gathered
  pub sees : SeesBoth before.seen seat.seen after.seen

-- The lists are empty, and have room for what these hold and have to spare.
pub record KeepsRoom (before after : Lists) : Type 0 where
  pub empty : AreEmpty after
  pub reads : after.reads.spare ≡ before.reads.spare + length before.reads.notes
  pub writes : after.writes.spare ≡ before.writes.spare + length before.writes.writes
  pub rewrites : after.writes.spare_rewrites ≡ before.writes.spare_rewrites + length before.writes.replaced
  pub hooks : after.handlers.spare ≡ before.handlers.spare + length before.handlers.hooks
  pub laters : after.handlers.spare_laters ≡ before.handlers.spare_laters + length before.handlers.laters
