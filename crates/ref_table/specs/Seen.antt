-- What a caller or the maker can rely on, whatever other callers do.
use Rattle.std.specs.Prelude.{◌≡◌, ℕ, ◌-◌, ◌<◌, ◌≤◌, IfSome, List, length, Some}
use Rattle.std.specs.List.{All}
use Rattle.opacity.specs.Alone.{IsUndisturbed}
use Rattle.opacity.specs.Known.{IsKnown}
use Rattle.opacity.specs.Words.{IsOfTable}
use Rattle.meta_word.specs.declared.status.TheConstants.{MAX_SERIAL}
use Rattle.stm_model.specs.Accesses.{access_of, next_at, word_of}
use Rattle.stm_model.specs.Attempt.{Attempt, cause_at, stamp_of}
use Rattle.stm_model.specs.History.{Entry, IsLegal, entry_after}
use Rattle.stm_model.specs.Safe.{HasBegun, IsKept, IsShown, KeepsLaw, Opaque}
use Rattle.stm_model.specs.World.{IsCaller, Terms, entry_of}
use Rattle.stm_model.specs.declared.cause.Cause.{Cause}
use Rattle.stm_model.specs.declared.ending.Ending.TheVariants.{Committed, Read, Rolled}
use Rattle.ref_table.specs.Seats.{MakerState, SeatState}

-- The entries of this caller that were seen: each is of an attempt that it made, of each attempt there is one at most, in their order, and of one that isn't decided there is none.
pub record HasOwnEntries (number : ℕ) (attempt : Attempt) (seen : List Entry) : Type 0 where
  pub latest : (n : ℕ) → n < length seen → (entry_after seen n).caller ≡ number → (entry_after seen n).serial ≤ attempt.serial
  pub ascend : (m n : ℕ) → m < n → n < length seen → (entry_after seen m).caller ≡ number → (entry_after seen n).caller ≡ number →
      (entry_after seen m).serial < (entry_after seen n).serial
  pub undecided : (n : ℕ) → n < length seen → (entry_after seen n).caller ≡ number → IsKept attempt.stage attempt.ending → stamp_of attempt ≡ 0 →
      (entry_after seen n).serial < attempt.serial

-- An attempt has read one heap of what was seen, what it was refused with is shown by it, and how it ends is true of it.
pub record IsTrueOf (opening : List ℕ) (seen : List Entry) (since : ℕ) (t : Attempt) : Type 0 where
  pub opaque : HasBegun t.stage → IsKept t.stage t.ending → Opaque opening seen since t
  pub refused : IfSome (cause_at t.stage) (IsShown t)
  pub rolled : (cause : Cause) (prefix : ℕ) → t.ending ≡ Some (Rolled cause prefix) → (prefix ≡ t.prefix) × IsShown t cause
  pub read : (prefix : ℕ) → t.ending ≡ Some (Read prefix) → prefix ≡ t.prefix
  pub committed : (stamp : ℕ) → t.ending ≡ Some (Committed stamp) →
      (0 < stamp) × (stamp ≤ length seen) × (entry_after seen (stamp - 1) ≡ entry_of t)

-- What was seen is a legal history, and its heaps keep the law.
pub record IsLawfulHistory (lawful : List ℕ → Type 0) (may : List ℕ → List ℕ → Type 0) (terms : Terms) (seen : List Entry) : Type 0 where
  pub legal : IsLegal terms.opening seen
  pub law : KeepsLaw lawful may terms.opening seen
  pub callers : (n : ℕ) → n < length seen → IsCaller terms (entry_after seen n).caller

-- What a caller's seat can rely on.
pub record SafeSeat (lawful : List ℕ → Type 0) (may : List ℕ → List ℕ → Type 0) (terms : Terms) (seat : SeatState) : Type 0 where
  pub caller : IsCaller terms seat.number
  pub own : seat.view.attempt.own ≡ seat.number
  pub limit : seat.view.attempt.settings.clock ≡ terms.limit
  pub serial : seat.view.attempt.serial ≤ MAX_SERIAL
  pub counted : length seat.seen ≡ seat.view.seen
  pub since : seat.view.since ≤ seat.view.seen
  pub clock : seat.view.clock ≤ seat.view.seen
  pub known : IsKnown seat.view
  pub seen : IsLawfulHistory lawful may terms seat.seen
  pub entries : HasOwnEntries seat.number seat.view.attempt seat.seen
  pub attempt : IsTrueOf terms.opening seat.seen seat.view.since seat.view.attempt
  -- once what is due was done, its next access is to a word of the table
  pub within : IfSome (next_at seat.view.attempt seat.view.attempt.stage) (λ act. IsOfTable terms (word_of (access_of act)))
  -- an only caller is disturbed by nobody
  pub undisturbed : terms.callers ≡ 1 → IsUndisturbed seat.view.attempt

-- This number was given, and all entries of its caller are among the first so many.
pub record HasAllOf (count : ℕ) (seen : List Entry) (gathered : ℕ × ℕ) : Type 0 where
  pub low : 0 < gathered.0
  pub high : gathered.0 ≤ count
  pub within : gathered.1 ≤ length seen
  pub all : (n : ℕ) → n < length seen → (entry_after seen n).caller ≡ gathered.0 → n < gathered.1

-- What the maker can rely on: it has given no more numbers than there are, each entry that it has seen is of a number that it gave, and of each that it gathered it has all entries.
pub record SafeMaker (lawful : List ℕ → Type 0) (may : List ℕ → List ℕ → Type 0) (terms : Terms) (maker : MakerState) : Type 0 where
  pub few : maker.given ≤ terms.callers
  pub seen : IsLawfulHistory lawful may terms maker.seen
  pub given : (n : ℕ) → n < length maker.seen → (entry_after maker.seen n).caller ≤ maker.given
  pub gathered : All (HasAllOf maker.given maker.seen) maker.gathered
