-- Which entries of its caller came in while an attempt was made.
use Rattle.std.proofs.Common.{◌≡◌, ℕ, suc, ◌-◌, ◌<◌, ◌≤◌, List, length, Some, sym, ap, ◌∙◌, inl, inr, arith}
use Rattle.std.proofs.lemmas.Bool.{cases_lt}
use Rattle.ref_table.specs.Calls.{HasNoneOf}
use Rattle.ref_table.specs.Seats.{SeatState}
use Rattle.ref_table.specs.Seen.{SafeSeat}
use Rattle.ref_table.proofs.SafeSeats.{entry_then}
use Rattle.stm_model.specs.Attempt.{stamp_of}
use Rattle.stm_model.specs.History.{Entry, entry_after}
use Rattle.stm_model.specs.Safe.{IsKept}
use Rattle.stm_model.specs.World.{Terms}
use Rattle.stm_model.specs.declared.ending.Ending.TheVariants.{Committed}
use Rattle.txn_drive.specs.Going.{SeesMore}

module _ (lawful : List ℕ → Type 0) (may : List ℕ → List ℕ → Type 0) (terms : Terms) (before after : SeatState) (safe : SafeSeat lawful may terms before) (safe_then : SafeSeat lawful may terms after)
    (sees : SeesMore (suc before.view.attempt.serial) before after) (next : after.view.attempt.serial ≡ suc before.view.attempt.serial) where
  -- Of an attempt that isn't decided there is none.
  pub none_came : IsKept after.view.attempt.stage after.view.attempt.ending → stamp_of after.view.attempt ≡ 0 → HasNoneOf before.number before.seen after.seen
  none_came kept none n low high own =
      let less : (entry_after after.seen n).serial < after.view.attempt.serial = safe_then.entries.undecided n high (own ∙ sym sees.same.number) kept none in
      let mine : (entry_after after.seen n).serial ≡ suc before.view.attempt.serial = sees.mine n low high own in
      omega arith

  module _ (stamp : ℕ) (ends : after.view.attempt.ending ≡ Some (Committed stamp)) where
    above : 0 < stamp
    above = (safe_then.attempt.committed stamp ends).0

    within : stamp ≤ length after.seen
    within = (safe_then.attempt.committed stamp ends).1

    its_caller : (entry_after after.seen (stamp - 1)).caller ≡ before.number
    its_caller = ap (λ (entry : Entry). entry.caller) (safe_then.attempt.committed stamp ends).2 ∙ (safe_then.own ∙ sees.same.number)

    its_serial : (entry_after after.seen (stamp - 1)).serial ≡ suc before.view.attempt.serial
    its_serial = ap (λ (entry : Entry). entry.serial) (safe_then.attempt.committed stamp ends).2 ∙ next

    not_seen : stamp - 1 < length before.seen → ⊥
    not_seen low =
        let same : entry_after before.seen (stamp - 1) ≡ entry_after after.seen (stamp - 1) = entry_then before.seen after.seen (stamp - 1) sees.grows low in
        let latest = safe.entries.latest (stamp - 1) low (ap (λ (entry : Entry). entry.caller) same ∙ its_caller) in
        let serial : (entry_after before.seen (stamp - 1)).serial ≡ suc before.view.attempt.serial = ap (λ (entry : Entry). entry.serial) same ∙ its_serial in
        omega arith

    -- It has come in since.
    pub came_in : length before.seen < stamp
    came_in = elim (cases_lt (stamp - 1) (length before.seen)) [
      | inl low ↦ absurd (not_seen low)
      | inr late ↦ let some : 0 < stamp = above in omega arith
    ]

    -- No other one has.
    pub only_one : (n : ℕ) → length before.seen ≤ n → n < length after.seen → (entry_after after.seen n).caller ≡ before.number → n ≡ stamp - 1
    only_one n low high own =
        let mine : (entry_after after.seen n).serial ≡ suc before.view.attempt.serial = sees.mine n low high own in
        let its : (entry_after after.seen (stamp - 1)).serial ≡ suc before.view.attempt.serial = its_serial in
        let some : 0 < stamp = above in
        let top : stamp ≤ length after.seen = within in
        elim (cases_lt n (stamp - 1)) [
          | inl early ↦
              let less = safe_then.entries.ascend n (stamp - 1) early (omega arith) (own ∙ sym sees.same.number) (its_caller ∙ sym sees.same.number) in
              absurd (omega arith)
          | inr late ↦ elim (cases_lt (stamp - 1) n) [
            | inl later ↦
                let less = safe_then.entries.ascend (stamp - 1) n later high (its_caller ∙ sym sees.same.number) (own ∙ sym sees.same.number) in
                absurd (omega arith)
            | inr here ↦ omega arith
          ]
        ]
