-- Which entry of the history is that of a caller's latest attempt. Here w is a world and p a caller's number.
use Rattle.std.proofs.Common.{◌≡◌, ℕ, zero, suc, ◌-◌, ◌<◌, List, length, Option, Some, None, refl, sym, ap, ◌∙◌, arith, inl, inr}
use Rattle.std.proofs.lemmas.Bool.{cases_lt}
use Rattle.stm_model.specs.Attempt.{Attempt, stamp_in, stamp_of}
use Rattle.stm_model.specs.History.{Entry, entry_after}
use Rattle.stm_model.specs.Safe.{IsKept, Safe, caller_at, serial_at}
use Rattle.stm_model.specs.World.{IsCaller, Terms, World, attempt_of, entry_of}
use Rattle.stm_model.specs.declared.ending.Ending.{Ending}
use Rattle.stm_model.specs.declared.ending.Ending.TheVariants.{Committed, Read, Rolled}
use Rattle.opacity.proofs.Truths.{committed_shows}

-- an attempt with a stamp has committed
pub committed_by : (ending : Option Ending) (n : ℕ) → stamp_in ending ≡ suc n → ending ≡ Some (Committed (suc n))
committed_by None n is = let never : 0 ≡ suc n = is in absurd (omega (arith, never))
committed_by (Some (Committed stamp)) n is = ap (λ (k : ℕ). Some (Committed k)) is
committed_by (Some (Read prefix)) n is = let never : 0 ≡ suc n = is in absurd (omega (arith, never))
committed_by (Some (Rolled cause prefix)) n is = let never : 0 ≡ suc n = is in absurd (omega (arith, never))

module _ (lawful : List ℕ → Type 0) (may : List ℕ → List ℕ → Type 0) (terms : Terms) (w : World) (p : ℕ) (safe : Safe lawful may terms w) (caller : IsCaller terms p) where
  abbrev t : Attempt
  t = attempt_of w p

  -- The entry with its stamp is its own.
  pub own_entry : (n : ℕ) → stamp_of t ≡ suc n → (n < length w.history) × (entry_after w.history n ≡ entry_of t)
  own_entry n is =
      let shows = committed_shows terms w p t (suc n) (safe.attempts p caller) (committed_by t.ending n is) in
      let place : suc n - 1 ≡ n = omega arith in
      (omega (arith, shows.1), ap (λ (k : ℕ). entry_after w.history k) (sym place) ∙ shows.2)

  -- An entry of the caller that is the attempt's has its stamp.
  module _ (kept : IsKept t.stage t.ending) (n : ℕ) (within : n < length w.history) (own : caller_at w n ≡ p) (serial : serial_at w n ≡ t.serial) where
    -- no two entries are of one attempt
    one_place : (m : ℕ) → m < length w.history → entry_after w.history m ≡ entry_of t → m ≡ n
    one_place m inside is = elim (cases_lt m n) [
      | inl before ↦ absurd (let rises = safe.callers.ascend m n before within same_caller in omega (arith, rises, same_serial, serial))
      | inr from ↦ elim (cases_lt n m) [
        | inl before ↦ absurd (let rises = safe.callers.ascend n m before inside (sym same_caller) in omega (arith, rises, same_serial, serial))
        | inr upto ↦ omega (arith, from, upto)
      ]
    ]
      where
        same_caller : caller_at w m ≡ caller_at w n
        same_caller = ap (λ (entry : Entry). entry.caller) is ∙ (safe.attempts p caller).sound.own ∙ sym own

        same_serial : serial_at w m ≡ t.serial
        same_serial = ap (λ (entry : Entry). entry.serial) is

    pub own_stamp : stamp_of t ≡ suc n
    own_stamp = go (stamp_of t) refl
      where
        go : (stamp : ℕ) → stamp_of t ≡ stamp → stamp ≡ suc n
        go zero none = absurd (let less = safe.callers.undecided n p within own kept none in omega (arith, less, serial))
        go (suc m) is = let entry = own_entry m is in ap suc (one_place m entry.0 entry.1)
