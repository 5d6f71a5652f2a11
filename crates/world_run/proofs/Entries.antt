-- What one attempt leaves in the history.
use Rattle.std.proofs.Common.{◌≡◌, inl, inr, ℕ, suc, ◌+◌, ◌-◌, ◌<◌, ◌≤◌, List, [], ◌∷◌, ◌++◌, length, Some, ap, sym, ◌∙◌, refl, arith, length-append, append-nil, append_assoc}
use Rattle.std.specs.List.{All}
use Rattle.std.proofs.lemmas.Bool.{cases_lt}
use Rattle.std.proofs.lemmas.List.{get_or_at, get_or_append_left}
use Rattle.std.proofs.lemmas.List.Elements.{All-head, All-tail}
use Rattle.opacity.proofs.Truths.{committed_shows}
use Rattle.stm_core.specs.Machine.{IsSameAttempt}
use Rattle.stm_model.specs.Attempt.{Attempt, Ended, stamp_in, stamp_of}
use Rattle.stm_model.specs.History.{Entry, entry_after, no_entry}
use Rattle.stm_model.specs.Safe.{IsKept, Safe, caller_at, serial_at}
use Rattle.stm_model.specs.World.{IsCaller, Terms, World, attempt_of, entry_of}
use Rattle.stm_model.specs.declared.ending.Ending.{Ending}
use Rattle.stm_model.specs.declared.ending.Ending.TheVariants.{Committed, Read, Rolled}
use Rattle.world_run.specs.Going.{IsOf}
use Rattle.world_run.specs.Run.{Leaves}

-- The attempt is one that stands, undecided, in a safe world v, and later in a safe world w. What came between is its own.
module _ {lawful : List ℕ → Type 0} {may : List ℕ → List ℕ → Type 0} {terms : Terms} {v w : World} (p : ℕ) (safe_before : Safe lawful may terms v) (safe : Safe lawful may terms w) (caller : IsCaller terms p)
    (kept : IsKept (attempt_of v p).stage (attempt_of v p).ending) (undecided : stamp_of (attempt_of v p) ≡ 0)
    (same : IsSameAttempt (attempt_of v p) (attempt_of w p)) where
  abbrev t : Attempt
  t = attempt_of v p

  abbrev u : Attempt
  u = attempt_of w p

  own_number : t.own ≡ p
  own_number = (safe_before.attempts p caller).sound.own

  -- what stands at the old history's end
  first_new : (entry : Entry) (entries : List Entry) → w.history ≡ v.history ++ entry ∷ entries → entry_after w.history (length v.history) ≡ entry
  first_new entry entries is = ap (λ (list : List Entry). entry_after list (length v.history)) is ∙ get_or_at v.history entry entries no_entry (length v.history) refl

  second_new : (entry other : Entry) (entries : List Entry) → w.history ≡ v.history ++ entry ∷ other ∷ entries → entry_after w.history (suc (length v.history)) ≡ other
  second_new entry other entries is =
      let here : w.history ≡ (v.history ++ entry ∷ []) ++ other ∷ entries = is ∙ sym (append_assoc v.history (entry ∷ []) (other ∷ entries)) in
      let long : length (v.history ++ entry ∷ []) ≡ suc (length v.history) = omega (arith, length-append v.history (entry ∷ [])) in
      ap (λ (list : List Entry). entry_after list (suc (length v.history))) here ∙ get_or_at (v.history ++ entry ∷ []) other entries no_entry (suc (length v.history)) long

  -- Two entries of one attempt would not ascend.
  one_entry : {A : Type 0} (entry other : Entry) (entries : List Entry) → w.history ≡ v.history ++ entry ∷ other ∷ entries → All (IsOf t) (entry ∷ other ∷ entries) → A
  one_entry entry other entries is left =
      let first : IsOf t entry = All-head (IsOf t) entry (other ∷ entries) left in
      let second : IsOf t other = All-head (IsOf t) other entries (All-tail (IsOf t) entry (other ∷ entries) left) in
      let m = length v.history in
      let at_first = first_new entry (other ∷ entries) is in
      let at_second = second_new entry other entries is in
      let long : suc m < length w.history = (let whole = ap length is ∙ length-append v.history (entry ∷ other ∷ entries) in omega (arith, whole)) in
      let callers : caller_at w m ≡ caller_at w (suc m) = ap (λ (e : Entry). e.caller) at_first ∙ first.caller ∙ sym second.caller ∙ ap (λ (e : Entry). e.caller) (sym at_second) in
      let less : serial_at w m < serial_at w (suc m) = safe.callers.ascend m (suc m) (omega arith) long callers in
      let low : serial_at w m ≡ t.serial = ap (λ (e : Entry). e.serial) at_first ∙ first.serial in
      let high : serial_at w (suc m) ≡ t.serial = ap (λ (e : Entry). e.serial) at_second ∙ second.serial in
      absurd (omega (arith, less, low, high))

  -- An attempt that isn't decided has left none.
  left_none : IsKept u.stage u.ending → stamp_of u ≡ 0 → (entries : List Entry) → w.history ≡ v.history ++ entries → All (IsOf t) entries → w.history ≡ v.history
  left_none still none [] is left = is ∙ append-nil v.history
  left_none still none (entry ∷ entries) is left =
      let first : IsOf t entry = All-head (IsOf t) entry entries left in
      let at_first = first_new entry entries is in
      let long : length v.history < length w.history = (let whole = ap length is ∙ length-append v.history (entry ∷ entries) in omega (arith, whole)) in
      let own : caller_at w (length v.history) ≡ p = ap (λ (e : Entry). e.caller) at_first ∙ first.caller ∙ own_number in
      let less : serial_at w (length v.history) < u.serial = safe.callers.undecided (length v.history) p long own still none in
      let here : serial_at w (length v.history) ≡ u.serial = ap (λ (e : Entry). e.serial) at_first ∙ first.serial ∙ sym same.serial in
      absurd (omega (arith, less, here))

  -- The place of its own entry is no old one.
  not_old : {A : Type 0} (n : ℕ) (entries : List Entry) → w.history ≡ v.history ++ entries → n < length v.history → entry_after w.history n ≡ entry_of u → A
  not_old n entries is low here =
      let old : entry_after v.history n ≡ entry_of u = sym (ap (λ (list : List Entry). entry_after list n) is ∙ get_or_append_left v.history entries no_entry n low) ∙ here in
      let own : caller_at v n ≡ p = ap (λ (e : Entry). e.caller) old ∙ same.own ∙ own_number in
      let less : serial_at v n < t.serial = safe_before.callers.undecided n p low own kept undecided in
      let word : serial_at v n ≡ t.serial = ap (λ (e : Entry). e.serial) old ∙ same.serial in
      absurd (omega (arith, less, word))

  module _ (stamp : ℕ) (above : 0 < stamp) (within : stamp ≤ length w.history) (here : entry_after w.history (stamp - 1) ≡ entry_of u) where
    left_one : (entries : List Entry) → w.history ≡ v.history ++ entries → All (IsOf t) entries → (w.history ≡ v.history ++ entry_of u ∷ []) × (stamp ≡ length w.history)
    left_one [] is left =
        let whole : length w.history ≡ length v.history = ap length (is ∙ append-nil v.history) in
        not_old (stamp - 1) [] is (omega (arith, above, within, whole)) here
    left_one (entry ∷ []) is left = elim (cases_lt (stamp - 1) (length v.history)) [
      | inl low ↦ not_old (stamp - 1) (entry ∷ []) is low here
      | inr high ↦
          let whole : length w.history ≡ length v.history + 1 = ap length is ∙ length-append v.history (entry ∷ []) in
          let place : stamp - 1 ≡ length v.history = omega (arith, above, within, whole, high) in
          let own : entry ≡ entry_of u = sym (first_new entry [] is) ∙ ap (λ (n : ℕ). entry_after w.history n) (sym place) ∙ here in
          (is ∙ ap (λ (e : Entry). v.history ++ e ∷ []) own, omega (arith, above, within, whole, high))
    ]
    left_one (entry ∷ other ∷ entries) is left = one_entry entry other entries is left

  still : (ending : Ending) → u.stage ≡ Ended → u.ending ≡ Some ending → IsKept u.stage u.ending
  unfolding IsKept
  still ending over ends = rw (over, ends) tt

  -- What an attempt that is over has left.
  pub leaves : (ending : Ending) → u.stage ≡ Ended → u.ending ≡ Some ending → (entries : List Entry) → w.history ≡ v.history ++ entries → All (IsOf t) entries
      → Leaves v.history u ending w.history
  unfolding Leaves
  leaves (Committed stamp) over ends entries is left =
      let told = committed_shows terms w p u stamp (safe.attempts p caller) ends in
      left_one stamp told.0 told.1 told.2 entries is left
  leaves (Read prefix) over ends entries is left = left_none (still (Read prefix) over ends) (ap stamp_in ends) entries is left
  leaves (Rolled cause prefix) over ends entries is left = left_none (still (Rolled cause prefix) over ends) (ap stamp_in ends) entries is left
